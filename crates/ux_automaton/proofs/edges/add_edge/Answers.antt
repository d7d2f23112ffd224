use Rattle.std.specs.Prelude.{Contains}
use Rattle.std.proofs.Common.{List, ℕ, subst, sym, ◌↔◌}
use Rattle.ux_walk.specs.Settings.{masked_setting}
use Rattle.ux_automaton.specs.Targets.{Takes}
use Rattle.ux_automaton.proofs.CacheLemmas.{either, through}
use Rattle.ux_automaton.proofs.OverLemmas.{ends_over}
use Rattle.ux_automaton.proofs.Results.{on_ok}
use Rattle.ux_automaton.proofs.edges.add_edge.Goals as goal

pub returns : goal.returns
returns c = on_ok c.add_ends.result _ _ (λ adds target. through (adds target)
    (either (ends_over (masked_setting c.args.masked.now) c.args.at c.args.stand c.args.edge.now
    c.as_slice.result.now
    (λ k. subst (λ (l : List ℕ). Contains l k
    ↔ Takes (masked_setting c.args.masked.now) c.args.edge.now.label c.args.at k)
    (sym c.as_slice.ensures.value) (c.in_ok-ends.ensures k)) target))) c.add_ends.ensures
