use Rattle.std.proofs.Common.{get_or}
use Rattle.ux_closure.specs.declared.stand.Stand.{Stand}
use Rattle.ux_net.specs.declared.state.Edge.{Edge}
use Rattle.ux_automaton.specs.Targets.{IsEdgeOf, MayTakeToken}
use Rattle.ux_automaton.proofs.AddingLemmas.{each_all, each_next, item_at}
use Rattle.ux_automaton.proofs.takers.may_take.Goals as goal

pub loop-stand-preserved : goal.loop-stand-preserved
loop-stand-preserved c =
    let none : Stand = record {
      here = record { graph = 0; state = 0 };
      back = 0;
    } in
    let i = c.loop-stand.stand-index in
    let inside = c.loop-stand-test.true in
    each_next c.args.stands.now i
    (λ (stand : Stand). (edge : Edge) → IsEdgeOf c.args.net.now stand.here edge →
    MayTakeToken edge.label → ⊥) (get_or c.args.stands.now i none) inside
    (item_at c.args.stands.now i none inside) c.loop-stand.invariant
    (c.may_stand_take.ensures c.if-may_stand_take.false)

pub returns : goal.returns
returns c = λ none stand edge inside of may. each_all c.args.stands.now c.loop-stand.stand-index
    (λ (s : Stand). (e : Edge) → IsEdgeOf c.args.net.now s.here e → MayTakeToken e.label → ⊥)
    c.loop-stand-test.false c.loop-stand.invariant stand inside edge of may
