-- A list that is sorted by what the fields of its elements say, field by field, is in order.
use Rattle.std.proofs.Common.{arith, ◌≡◌, ◌+◌, ◌<◌, List, inl, inr, get_or, subst, refl, Ordering, Less, Equal, Greater}
use Rattle.std.specs.Ordering.{MatchOrdering, nat_cmp, ordering_then}
use Rattle.std.specs.Cmp.Lexicographic.{slice_cmp}
use Rattle.std.proofs.lemmas.Cmp.{ranked}
use Rattle.std.specs.List.Sorted.{IsStrictlySortedBy}
use Rattle.std.proofs.lemmas.Map.Keys.{Less-from_sorted}
use Rattle.std.proofs.lemmas.Option.{slice_get_within, get_or_from_slice_get}
use Rattle.ux_outputs.specs.declared.hit.Hit.{Hit}
use Rattle.ux_outputs.specs.declared.span.Span.{Span}
use Rattle.ux_locate.specs.Index.{StandsBefore}
use Rattle.ux_locate.specs.Order.{AreInOrder, Precedes}

abbrev span_cmp : Span → Span → Ordering
span_cmp a b = ordering_then (nat_cmp a.first b.first) (nat_cmp a.last b.last)

spans_ranked : (a b : Span) (first last : Ordering) →
    MatchOrdering first (a.first < b.first) (a.first ≡ b.first) (b.first < a.first) →
    MatchOrdering last (a.last < b.last) (a.last ≡ b.last) (b.last < a.last) →
    ordering_then first last ≡ Less → Precedes a b
spans_ranked a b Less last f l e = inl f
spans_ranked a b Equal Less f l e = inr (f, l)
spans_ranked a b Equal Equal f l e = cc
spans_ranked a b Equal Greater f l e = cc
spans_ranked a b Greater last f l e = cc

precedes : (a b : Span) → span_cmp a b ≡ Less → Precedes a b
precedes a b less =
    spans_ranked a b (nat_cmp a.first b.first) (nat_cmp a.last b.last)
    (ranked a.first b.first (nat_cmp a.first b.first) refl)
    (ranked a.last b.last (nat_cmp a.last b.last) refl) less

abbrev hit_cmp : Hit → Hit → Ordering
hit_cmp a b = ordering_then (nat_cmp a.first b.first)
    (ordering_then (nat_cmp a.last b.last) (slice_cmp nat_cmp a.text b.text))

hits_ranked : (a b : Hit) (first last : Ordering) →
    MatchOrdering first (a.first < b.first) (a.first ≡ b.first) (b.first < a.first) →
    MatchOrdering last (a.last < b.last) (a.last ≡ b.last) (b.last < a.last) →
    ordering_then first (ordering_then last (slice_cmp nat_cmp a.text b.text)) ≡ Less →
    StandsBefore a b
hits_ranked a b Less last f l e = inl f
hits_ranked a b Equal Less f l e = inr (inl (f, l))
hits_ranked a b Equal Equal f l e = inr (inr (f, l, e))
hits_ranked a b Equal Greater f l e = cc
hits_ranked a b Greater last f l e = cc

stands_before : (a b : Hit) → hit_cmp a b ≡ Less → StandsBefore a b
stands_before a b less =
    hits_ranked a b (nat_cmp a.first b.first) (nat_cmp a.last b.last)
    (ranked a.first b.first (nat_cmp a.first b.first) refl)
    (ranked a.last b.last (nat_cmp a.last b.last) refl) less

module _ {X : Type 0} (cmp : X → X → Ordering) (Before : X → X → Type 0)
    (says : (a b : X) → cmp a b ≡ Less → Before a b) where
  in_order : (xs : List X) → IsStrictlySortedBy cmp xs → AreInOrder Before xs
  in_order xs sorted k a b first second = says a b
      (subst (λ (x : X). cmp x b ≡ Less) (get_or_from_slice_get xs k a a first)
      (subst (λ (y : X). cmp (get_or xs k a) y ≡ Less)
      (get_or_from_slice_get xs (k + 1) b a second)
      (Less-from_sorted cmp xs k (k + 1) a sorted (omega arith)
      (slice_get_within xs (k + 1) b second))))

pub spans_in_order : (spans : List Span) → IsStrictlySortedBy span_cmp spans →
    AreInOrder Precedes spans
spans_in_order spans sorted = in_order span_cmp Precedes precedes spans sorted

pub hits_in_order : (hits : List Hit) → IsStrictlySortedBy hit_cmp hits →
    AreInOrder StandsBefore hits
hits_in_order hits sorted = in_order hit_cmp StandsBefore stands_before hits sorted
