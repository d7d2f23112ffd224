use Rattle.std.proofs.Common.{Bool, List, take, subst, sym, ◌+◌}
use Rattle.std.specs.Prelude.{IsTrue}
use Rattle.ux_image_lexicon.specs.Counting.{AreApart, IsApart}
use Rattle.ux_image_lexicon.specs.declared.codes.ReadCode.{ReadCode}
use Rattle.ux_image_lexicon.specs.declared.codes.ReadList.{ReadList}
use Rattle.ux_image_lexicon.proofs.PlaceLemmas.{zip_more}
use Rattle.ux_image_lexicon.proofs.apart.lists_apart.Goals as goal

pub loop-list-preserved : goal.loop-list-preserved
loop-list-preserved c =
    let lists = c.args.lists.now in
    let flag = c.in_ok-is_apart.field-0 in
    subst (AreApart (take (c.loop-list.list-index + 1) lists)) (sym {A = List Bool} c.in_ok-push.ensures.items)
    (zip_more (λ (list : ReadList) (one : Bool). IsTrue one → IsApart list.codes) lists
    c.loop-list.list-index c.list-item.result c.loop-list.flags.items flag c.loop-list-test.true
    c.list-item.is c.loop-list.invariant
    (subst (λ (l : List ReadCode). IsTrue flag → IsApart l) c.as_slice.ensures
    c.in_ok-is_apart.ensures))
