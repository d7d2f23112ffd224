use Rattle.std.proofs.Common.{ℕ, List, subst, sym}
use Rattle.ux_chart.specs.Places.{AreEnough}
use Rattle.ux_chart.proofs.Searching.{at_some, expanded, expanded_at}
use Rattle.ux_chart.proofs.following.expand.Goals as goal

pub follow_places-requires-clause-edges : goal.follow_places-requires-clause-edges
follow_places-requires-clause-edges g c =
    (c.in-Some.state.now, sym c.in-Some.ensures, sym c.as_slice-edges.ensures)

pub follow_edges-requires-clause-edges : goal.follow_edges-requires-clause-edges
follow_edges-requires-clause-edges g c =
    (c.in-Some.state.now, sym c.in-Some.ensures, sym c.as_slice-edges.ensures)

pub returns-in-Some-2 : goal.returns-in-Some-2
returns-in-Some-2 g c =
    let input = g.B.Basis.input c.args.basis.now in
    let net = c.args.net.now in
    let parts = c.args.parts.now in
    let edges = c.as_slice-edges.result.now in
    let enough = at_some c.in_ok-places.field-0 c.in-Some-2.places _ c.in-Some-2.is
    (c.in_ok-places.ensures net parts c.requires.serves
    (c.in-Some.state.now, sym c.in-Some.ensures, sym c.as_slice-edges.ensures)) in
    expanded_at input net parts.levels c.args.graph c.args.from c.in-Some.state.now
    c.in-Some.ensures edges c.as_slice-edges.ensures c.deref.result.now
    (subst (λ (l : List ℕ). AreEnough input edges l c.args.from.at) (sym c.deref.ensures.value)
    enough) c.clear.new.self.items c.follow_places.new.found.items c.clear.ensures.items
    c.in_ok-follow_places-in-Some-2.ensures

pub returns-in-None : goal.returns-in-None
returns-in-None g c =
    expanded (g.B.Basis.input c.args.basis.now) c.args.net.now c.args.parts.now.levels
    c.args.graph c.args.from c.in-Some.state.now c.in-Some.ensures c.as_slice-edges.result.now
    c.as_slice-edges.ensures c.clear.new.self.items c.follow_edges.new.found.items
    c.clear.ensures.items c.in_ok-follow_edges-in-None.ensures
