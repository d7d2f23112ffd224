use Rattle.std.proofs.Common.{◌≡◌, ◌↔◌, List, refl, subst, sym}
use Rattle.std.specs.Prelude.{None, Some}
use Rattle.std.proofs.lemmas.Option.{slice_get_past, slice_get_read}
use Rattle.ux_dawg.specs.declared.state.State.{State}
use Rattle.ux_dawg.specs.declared.state.Edge.{Edge}
use Rattle.ux_dawg.specs.Paths.{AreStates, IsEdge}
use Rattle.ux_dawg.proofs.FlatLemmas.{edge_tells}
use Rattle.ux_dawg.proofs.dawg.Dawg.edge.Goals as goal

pub returns-in-Some-clause-edge : goal.returns-in-Some-clause-edge
returns-in-Some-clause-edge c =
    let there = c.in-Some.ensures.lookup in
    let edges = c.edges.result.now in
    subst (λ (states : List State). (e : Edge) → (Some c.in-Some.edge.now ≡ Some e)
    ↔ IsEdge states c.args.number c.args.place e) c.self.view_is
    (edge_tells c.self.inside.states c.args.number edges c.edges.ensures c.args.place
    (Some c.in-Some.edge.now)
    (sym (slice_get_read edges _ c.args.place c.in-Some.edge.now refl there.3.0 there.1)))

pub returns-in-None-clause-edge : goal.returns-in-None-clause-edge
returns-in-None-clause-edge c =
    let edges = c.edges.result.now in
    subst (λ (states : List State). (e : Edge) → (None ≡ Some e)
    ↔ IsEdge states c.args.number c.args.place e) c.self.view_is
    (edge_tells c.self.inside.states c.args.number edges c.edges.ensures c.args.place None
    (sym (slice_get_past edges c.args.place c.in-None.ensures.lookup.3)))

pub returns-in-Some-clause-order : goal.returns-in-Some-clause-order
returns-in-Some-clause-order c = subst AreStates c.self.view_is c.self.invariant.0

pub returns-in-None-clause-order : goal.returns-in-None-clause-order
returns-in-None-clause-order c = subst AreStates c.self.view_is c.self.invariant.0
