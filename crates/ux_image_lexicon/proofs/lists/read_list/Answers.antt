use Rattle.std.proofs.Common.{List, subst, sym, take, ◌+◌}
use Rattle.std.specs.List.{AllZip}
use Rattle.ux_image_content.specs.Walking.{AreCodes, IsGood}
use Rattle.ux_image_lexicon.specs.Told.{IsRead}
use Rattle.ux_image_lexicon.specs.declared.codes.ReadCode.{ReadCode}
use Rattle.ux_image_lexicon.proofs.PlaceLemmas.{zip_more}
use Rattle.ux_image_lexicon.proofs.lists.read_list.Goals as goal

pub read_code-requires : goal.read_code-requires
read_code-requires c =
    let good = subst AreCodes (sym c.as_slice-code-items.ensures) c.requires in
    subst IsGood (sym c.code-item.is)
    (good c.loop-code.code-index c.code-item.result c.loop-code-test.true)

pub loop-code-preserved : goal.loop-code-preserved
loop-code-preserved c =
    subst (λ (l : List ReadCode).
    AllZip IsRead (take (c.loop-code.code-index + 1) c.as_slice-code-items.result.now) l)
    (sym (c.in_ok-push.ensures.items))
    (zip_more IsRead c.as_slice-code-items.result.now c.loop-code.code-index c.code-item.result
    c.loop-code.codes.items c.in_ok-read_code.field-0 c.loop-code-test.true c.code-item.is
    c.loop-code.invariant c.in_ok-read_code.ensures)
