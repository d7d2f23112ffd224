use Rattle.std.proofs.Common.{List, sym, subst, length}
use Rattle.std.specs.Prelude.{All}
use Rattle.std.specs.List.{AllZip}
use Rattle.ux_fst2_file.specs.Files.{Says}
use Rattle.ux_fst2_file.specs.Labels.{LabelsFit}
use Rattle.ux_fst2_file.specs.declared.file.Fst2Graph.{Fst2Graph}
use Rattle.ux_fst2.specs.Files.{IsGraphBy}
use Rattle.ux_fst2.specs.Inner.{IsBorneBy, IsReadTag, NamesTagsIn}
use Rattle.ux_fst2.specs.Reading.{AreTagsWhole, IsSaidBy}
use Rattle.ux_fst2.specs.declared.tag.Tag.{Tag}
use Rattle.ux_fst2.proofs.ReadingLemmas.{borne_says, fitting_names, lift_graphs}
use Rattle.ux_fst2.proofs.SaidGraphs.{said_graphs}
use Rattle.ux_fst2.proofs.Zips.{zip-length}
use Rattle.ux_fst2.proofs.reading.read_states.Goals as goal

pub graphs_of-requires : goal.graphs_of-requires
graphs_of-requires c =
    let file = c.in_ok-said.said.file in
    let fits : LabelsFit file = rw c.in_default.is at c.bad_label.ensures in
    let tags : List Tag = c.as_slice-2.result.now in
    let read : AllZip IsReadTag file.tags tags =
    subst (AllZip IsReadTag file.tags) (sym c.as_slice-2.ensures.value) c.in_ok-tags.ensures.read in
    subst (All (NamesTagsIn (length tags))) (sym {A = List Fst2Graph} c.as_slice.ensures)
    (fitting_names file (length tags) (sym (zip-length IsReadTag file.tags tags read)) fits)

pub returns-clause-ok : goal.returns-clause-ok
returns-clause-ok c =
    let said = c.in_ok-said.said in
    let file = said.file in
    let whole = c.in_ok-tags.ensures.whole in
    let tags : List Tag = c.as_slice-2.result.now in
    let read : AllZip IsReadTag file.tags tags =
    subst (AllZip IsReadTag file.tags) (sym c.as_slice-2.ensures.value) c.in_ok-tags.ensures.read in
    record {
      file = file;
      says = subst (Says c.args.text.now file) whole.ended c.in_ok-said.ensures.ok;
      tags = subst (AreTagsWhole file.tags) whole.ended whole;
      fit = rw c.in_default.is at c.bad_label.ensures;
      are = lift_graphs (IsBorneBy tags) (IsSaidBy file.tags) (borne_says file.tags tags read)
          file.graphs c.in_ok-graphs_of.field-0.items
          (subst (λ (gs : List Fst2Graph).
          AllZip (IsGraphBy (IsBorneBy tags)) gs c.in_ok-graphs_of.field-0.items)
          c.as_slice.ensures c.in_ok-graphs_of.ensures);
    }

pub returns-clause-given : goal.returns-clause-given
returns-clause-given c =
    said_graphs c.args.text.now c.in_ok-graphs_of.field-0.items (returns-clause-ok c)
