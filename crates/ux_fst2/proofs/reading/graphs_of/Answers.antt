use Rattle.std.proofs.Common.{◌+◌, sym, subst, take}
use Rattle.std.specs.List.{AllZip}
use Rattle.ux_fst2.specs.Files.{IsGraphBy}
use Rattle.ux_fst2.specs.Inner.{IsBorneBy}
use Rattle.ux_fst2.proofs.Zips.{zip-more}
use Rattle.ux_fst2.proofs.reading.graphs_of.Goals as goal

pub loop-graph-preserved : goal.loop-graph-preserved
loop-graph-preserved c =
    let R = IsGraphBy (IsBorneBy c.args.tags.now) in
    let told = c.args.graphs.now in
    let i = c.loop-graph.graph-index in
    subst (AllZip R (take (i + 1) told)) (sym c.in_ok-push.ensures.items)
    (zip-more R told c.loop-graph.told.items i c.graph-item.result c.in_ok-graph_of.field-0
    c.loop-graph-test.true c.graph-item.is c.loop-graph.invariant c.in_ok-graph_of.ensures)
