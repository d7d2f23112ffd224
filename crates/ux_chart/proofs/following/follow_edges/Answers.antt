use Rattle.std.proofs.Common.{List, sym, subst}
use Rattle.std.specs.Prelude.{Contains}
use Rattle.ux_net.specs.declared.state.Edge.{Edge}
use Rattle.ux_chart.specs.declared.config.Config.{Config}
use Rattle.ux_chart.specs.Places.{Follows}
use Rattle.ux_chart.proofs.Collecting.{collected_each, collected_more, collected_none}
use Rattle.ux_chart.proofs.following.follow_edges.Goals as goal

pub follow-requires-clause-inside : goal.follow-requires-clause-inside
follow-requires-clause-inside g c =
    let (state, found, is) = c.requires.edges in (
      state,
      found,
      subst (λ (xs : List Edge). Contains xs c.edge-item.result) (sym is)
          (c.loop-edge.edge-index, c.loop-edge-test.true, sym c.edge-item.is),
    )

pub follow-requires-clause-known : goal.follow-requires-clause-known
follow-requires-clause-known g c =
    let (state, found, is) = c.requires.edges in
    c.requires.known c.args.graph c.args.from.state state c.edge-item.result found
    (subst (λ (xs : List Edge). Contains xs c.edge-item.result) (sym is)
    (c.loop-edge.edge-index, c.loop-edge-test.true, sym c.edge-item.is))

pub loop-edge-init : goal.loop-edge-init
loop-edge-init g c = collected_none _ _ c.args.found.now.items c.args.edges.now

pub loop-edge-preserved : goal.loop-edge-preserved
loop-edge-preserved g c =
    let edge = c.edge-item.result in
    collected_more _ _ c.args.found.now.items c.loop-edge.found.items c.follow.new.found.items
    c.args.edges.now c.loop-edge.edge-index edge
    (λ (w : Config). Follows (g.B.Basis.input c.args.basis.now) c.args.net.now
    c.args.parts.now.levels c.args.graph c.args.from edge w)
    c.loop-edge-test.true c.edge-item.is
    (λ w follows.
    (edge, (c.loop-edge.edge-index, c.loop-edge-test.true, sym c.edge-item.is), follows))
    c.loop-edge.invariant (λ w. (λ h. h, λ h. h)) c.in_ok-follow.ensures

pub returns : goal.returns
returns g c = collected_each _ _ c.args.found.now.items c.loop-edge.found.items c.args.edges.now
    c.loop-edge.edge-index c.loop-edge-test.false (λ w some. some) c.loop-edge.invariant
