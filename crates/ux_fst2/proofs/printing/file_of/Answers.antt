use Rattle.std.proofs.Common.{◌≡◌, ℕ, List, sym, subst, ◌∙◌, map}
use Rattle.std.specs.List.{AllZip, flat_map}
use Rattle.ux_fst2_file.specs.declared.file.Fst2Graph.{Fst2Graph}
use Rattle.ux_fst2.specs.Tags.{EMPTY_TAG}
use Rattle.ux_fst2.specs.Files.{IsGraphBy, IsPrintedBy, tags_of, tags_of_graph}
use Rattle.ux_net.specs.Whole.{told_graph}
use Rattle.ux_fst2.proofs.PrintingLemmas.{none_left, table_first, table_whole}
use Rattle.ux_fst2.proofs.printing.file_of.Goals as goal

pub returns : goal.returns
returns c =
    let graphs = map told_graph c.args.net.now in
    let keys : List (List ℕ) = c.graphs_of.new.tags.keys in
    let start = table_first c.new-tags.result.keys c.insert.new.self.keys c.in_ok-from_str.field-0
    (none_left c.new-tags.result.keys c.new-tags.ensures.len) c.in_ok-insert.ensures.keys EMPTY_TAG c.in_ok-from_str.ensures in
    let tags : keys ≡ tags_of graphs =
    table_whole EMPTY_TAG keys (flat_map tags_of_graph graphs) c.insert.new.self.keys start
    c.in_ok-graphs.ensures.tags in
    let list : c.new-2.result ≡ keys = c.new-2.ensures ∙ c.in_ok-tags_in.ensures in
    let made : c.new.result ≡ c.in_ok-graphs.graphs.items = c.new.ensures in
    record {
      tagged = list ∙ tags;
      are = subst (λ (ts : List (List ℕ)). AllZip (IsGraphBy (IsPrintedBy ts)) c.new.result graphs)
          (sym list)
          (subst (λ (gs : List Fst2Graph). AllZip (IsGraphBy (IsPrintedBy keys)) gs graphs)
          (sym made) c.in_ok-graphs.ensures.graphs);
    }
