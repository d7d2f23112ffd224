use Rattle.std.proofs.Common.{◌≡◌, ◌+◌, List, map, sym, subst, take}
use Rattle.std.specs.List.{AllZip}
use Rattle.std.proofs.lemmas.Option.{slice_get_within}
use Rattle.ux_net.specs.declared.net_graph.NetGraph.{NetGraph}
use Rattle.ux_net.specs.declared.state_graph.StateGraph.{StateGraph}
use Rattle.ux_fst2_file.specs.declared.file.Fst2Graph.{Fst2Graph}
use Rattle.ux_fst2.specs.Files.{IsGraphBy, IsPrintedBy, tags_of_graph}
use Rattle.ux_net.specs.Whole.{told_graph}
use Rattle.ux_fst2.specs.Inner.{with_texts}
use Rattle.ux_fst2.proofs.PrintingLemmas.{graph_told, found_at, printed_grown, texts_more}
use Rattle.ux_fst2.proofs.ReadingLemmas.{lift_graphs}
use Rattle.ux_fst2.proofs.Zips.{zip-more_right}
use Rattle.ux_fst2.proofs.printing.graphs_of.Goals as goal

pub loop-before-preserved : goal.loop-before-preserved
loop-before-preserved c =
    let graphs : List StateGraph = map told_graph c.args.net.now in
    let i = c.loop-before.before in
    let old = c.loop-before.tags.keys in
    let new = c.graph_of.new.tags.keys in
    let told : List Fst2Graph = c.loop-before.graphs.items in
    let one = c.in_ok-graph_of.ensures in
    let both = graph_told c.args.net.now i
    (λ (g : NetGraph). new ≡ with_texts old (tags_of_graph (told_graph g)))
    (λ (g : NetGraph). IsGraphBy (IsPrintedBy new) c.in_ok-graph_of.field-0 (told_graph g)) one.tags
    one.graph in
    let graph = told_graph both.0 in
    let below = slice_get_within graphs i graph both.1 in
    let at = found_at graphs i graph both.1 in
    record {
      tags = texts_more tags_of_graph c.args.tags.now.keys old new graphs i graph below at
          c.loop-before.invariant.tags both.2;
      graphs = subst (λ (l : List Fst2Graph).
          AllZip (IsGraphBy (IsPrintedBy new)) l (take (i + 1) graphs))
          (sym {A = List Fst2Graph} c.in_ok-push.ensures.items)
          (zip-more_right (IsGraphBy (IsPrintedBy new)) told graphs i c.in_ok-graph_of.field-0 graph
          below at
          (lift_graphs (IsPrintedBy old) (IsPrintedBy new)
          (printed_grown old new (tags_of_graph graph) both.2) told (take i graphs)
          c.loop-before.invariant.graphs) both.3);
    }
