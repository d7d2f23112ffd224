use Rattle.std.proofs.Common.{◌+◌, List, sym, subst, take}
use Rattle.std.specs.List.{AllZip}
use Rattle.ux_fst2_file.specs.declared.file.Fst2Edge.{Fst2Edge}
use Rattle.ux_fst2.specs.Files.{IsEdgeBy, IsPrintedBy, tags_of_edge}
use Rattle.ux_fst2.proofs.PrintingLemmas.{printed_grown, texts_more}
use Rattle.ux_fst2.proofs.ReadingLemmas.{lift_edges}
use Rattle.ux_fst2.proofs.Zips.{zip-more_right}
use Rattle.ux_fst2.proofs.printing.edges_of.Goals as goal

pub loop-edge-preserved : goal.loop-edge-preserved
loop-edge-preserved c =
    let edges = c.args.edges.now in
    let i = c.loop-edge.edge-index in
    let edge = c.edge-item.result in
    let old = c.loop-edge.tags.keys in
    let new = c.edge_of.new.tags.keys in
    let told = c.loop-edge.told.items in
    let one = c.in_ok-edge_of.ensures in
    record {
      tags = texts_more tags_of_edge c.args.tags.now.keys old new edges i edge c.loop-edge-test.true
          c.edge-item.is c.loop-edge.invariant.tags one.tags;
      edges = subst (λ (l : List Fst2Edge). AllZip (IsEdgeBy (IsPrintedBy new)) l (take (i + 1) edges))
          (sym c.in_ok-push.ensures.items)
          (zip-more_right (IsEdgeBy (IsPrintedBy new)) told edges i c.in_ok-edge_of.field-0 edge
          c.loop-edge-test.true c.edge-item.is
          (lift_edges (IsPrintedBy old) (IsPrintedBy new)
          (printed_grown old new (tags_of_edge edge) one.tags) told (take i edges)
          c.loop-edge.invariant.edges) one.edge);
    }
