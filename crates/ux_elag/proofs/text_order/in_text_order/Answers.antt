use Rattle.std.proofs.lemmas.List.Filters.{dedup_is}
use Rattle.std.proofs.lemmas.List.Kept.{Contains-dedup, Contains-from_dedup, IsStrictlySortedBy-dedup}
use Rattle.std.proofs.lemmas.List.Sorted.{Contains-permutation, IsPermutation-sym}
use Rattle.ux_elag.proofs.SortedLinks.{all-rising, link-equivalence, link-from_eq, link-ties, link-total}
use Rattle.ux_elag.proofs.text_order.in_text_order.Goals as goal

pub returns : goal.returns
returns c =
    let texts = c.args.texts.now in
    let is = dedup_is _ _ _ c.dedup.ensures.filtered in
    let moved = c.sort.ensures.same in
    record {
      rising = rw is (all-rising texts _ (IsStrictlySortedBy-dedup (link-total texts)
          (link-ties texts) _ c.sort.ensures.in_order));
      same = λ link. (
        λ has. Contains-permutation _ _ link (IsPermutation-sym _ _ moved)
            (Contains-from_dedup _ _ link (rw is at has)),
        λ has. rw is (Contains-dedup link-equivalence link-from_eq _ link
            (Contains-permutation _ _ link moved has)),
      );
    }
