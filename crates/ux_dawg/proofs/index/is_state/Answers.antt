use Rattle.std.proofs.Common.{sym, ◌∙◌}
use Rattle.ux_dawg.proofs.RegisterLemmas.{edges_decide, edges_tell, options_decide}
use Rattle.ux_dawg.proofs.index.is_state.Goals as goal

pub returns-then-eq : goal.returns-then-eq
returns-then-eq c =
    edges_tell _ edges_decide _ c.args.code c.args.edges.now c.edges.result.now
    c.eq-then-eq.result
    (sym c.code.ensures ∙ (options_decide _ _).0 (sym c.eq.ensures ∙ c.if-eq.true))
    c.edges.ensures c.eq-then-eq.ensures
