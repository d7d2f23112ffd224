use Rattle.std.proofs.Common.{List, sym, subst}
use Rattle.std.specs.Prelude.{Contains}
use Rattle.ux_net.specs.declared.state.Edge.{Edge}
use Rattle.ux_text_chart.proofs.beginning.may_begin.Goals as goal

pub some_leads-requires-clause-known : goal.some_leads-requires-clause-known
some_leads-requires-clause-known c = λ edge inside.
    c.requires.known c.in-Some.part.now.graph c.in-Some.part.now.first c.in-Some-state.state.now
    edge (sym c.in-Some-state.ensures)
    (subst (λ (es : List Edge). Contains es edge) c.as_slice.ensures inside)
