use Rattle.std.proofs.Common.{List, subst, sym, take, ◌+◌}
use Rattle.std.specs.List.{AllZip}
use Rattle.ux_image.specs.declared.code.CodeList.{CodeList}
use Rattle.ux_image_content.specs.Walking.{AreCodes, AreLists}
use Rattle.ux_image_lexicon.specs.Told.{AreRead, IsRead}
use Rattle.ux_image_lexicon.specs.declared.codes.ReadList.{ReadList}
use Rattle.ux_image_lexicon.proofs.PlaceLemmas.{zip_more}
use Rattle.ux_image_lexicon.proofs.lists.read_lists.Goals as goal

pub read_list-requires : goal.read_list-requires
read_list-requires c =
    let good = subst AreLists (sym c.as_slice-list-items.ensures.keys) c.requires in
    subst (λ (l : CodeList). AreCodes l.codes) (sym c.list-item.is)
    (good c.loop-list.list-index c.list-item.result c.loop-list-test.true)

pub loop-list-preserved : goal.loop-list-preserved
loop-list-preserved c =
    subst (λ (l : List ReadList).
    AreRead (take (c.loop-list.list-index + 1) c.as_slice-list-items.result.now) l)
    (sym c.in_ok-push.ensures.items)
    (zip_more (λ (list : CodeList) (one : ReadList). AllZip IsRead list.codes one.codes)
    c.as_slice-list-items.result.now c.loop-list.list-index c.list-item.result
    c.loop-list.read.items c.in_ok-read_list.field-0 c.loop-list-test.true c.list-item.is
    c.loop-list.invariant c.in_ok-read_list.ensures)
