use Rattle.std.proofs.Common.{◌+◌, List, sym, subst, take}
use Rattle.std.specs.List.{AllZip}
use Rattle.ux_net.specs.declared.state.Edge.{Edge}
use Rattle.ux_fst2.specs.Files.{IsEdgeBy}
use Rattle.ux_fst2.specs.Inner.{IsBorneBy}
use Rattle.ux_fst2.proofs.Zips.{zip-more_at}
use Rattle.ux_fst2.proofs.reading.edges_of.Goals as goal

pub loop-edge-preserved : goal.loop-edge-preserved
loop-edge-preserved c =
    let R = IsEdgeBy (IsBorneBy c.args.tags.now) in
    let edges = c.args.edges.now in
    let i = c.loop-edge.edge-index in
    subst (λ (l : List Edge). AllZip R (take (i + 1) edges) l) (sym c.in_ok-push.ensures.items)
    (zip-more_at R edges c.loop-edge.told.items i _ c.in_ok-edge_of.field-0 c.loop-edge-test.true
    c.loop-edge.invariant c.in_ok-edge_of.ensures)
