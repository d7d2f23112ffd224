-- The content of a dictionary is that of itself.
use Rattle.std.proofs.Common.{◌≢◌, ◌<◌, List, get_or, inl, inr, arith}
use Rattle.std.specs.Prelude.{AllPairs}
use Rattle.std.proofs.lemmas.Option.{get_or_from_slice_get, slice_get-get_or}
use Rattle.ux_dela.specs.declared.entry.Entry.{Entry}
use Rattle.ux_dict.specs.Content.{ComesBefore, IsContent, IsDictionary, IsEarlier, IsUpTo}

-- entries that stand once have their first places where they stand
earlier_once : (content : List Entry) → AllPairs (λ entry other. entry ≢ other) content →
    AllPairs (IsEarlier content) content
earlier_once content once i j d lt within a b first last =
    let x = get_or content i d in
    let y = get_or content j d in
    let low : i < a → ⊥ = λ less. first.first i less
    (slice_get-get_or content i d (omega (arith, lt, within))) in
    let high : b < j → ⊥ = λ less. once b j d less within
    (get_or_from_slice_get content b y d last.here) in
    omega (arith, lt, low, high)

comes_before : (content : List Entry) (x y : Entry) → IsUpTo x y → IsEarlier content x y →
    ComesBefore content x y
comes_before content x y (inl below) earlier = inl below
comes_before content x y (inr same) earlier = inr (same, earlier)

pub IsContent-itself : (content : List Entry) → IsDictionary content → IsContent content content
IsContent-itself content is = record {
  members = λ entry. (λ member. member, λ member. member);
  once = is.once;
  ordered = λ i j d lt within.
      comes_before content (get_or content i d) (get_or content j d)
      (is.ordered i j d lt within) (earlier_once content is.once i j d lt within);
}
