-- The order of texts, as entries in order have it.
use Rattle.std.proofs.Common.{◌≡◌, ℕ, zero, suc, ◌+◌, List, [], ◌∷◌, ◌++◌, false, take, get_or, refl, sym, ◌∙◌, ap, arith, inl, inr}
use Rattle.std.specs.Prelude.{◌==◌, AllPairs, bytes_eq, filter}
use Rattle.std.specs.Cmp.Lexicographic.{slice_cmp, nat_list_cmp_total}
use Rattle.std.specs.List.Sorted.{IsNonDecreasingBy}
use Rattle.std.specs.Ordering.{nat_cmp, is_lt, ordering_index, ordering_reverse, ordering_then}
use Rattle.std.specs.declared.cmp.Ordering.{Ordering}
use Rattle.std.specs.declared.cmp.Ordering.TheVariants.{Less, Equal, Greater}
use Rattle.std.proofs.lemmas.Cmp.{tied_itself, nat_cmp_total, is_eq_index}
use Rattle.std.proofs.lemmas.List.Elements.{filter_agree}
use Rattle.std.proofs.lemmas.List.Sorted.{searchable_from_sorted}
use Rattle.std.proofs.lemmas.Map.Text.{is_eq-slice_cmp}
use Rattle.ux_dela.specs.declared.entry.Entry.{Entry}
use Rattle.ux_dict.specs.Content.{IsUpTo}

-- of two entries in order, the later one isn't below
pub not_below : (x y : Entry) → IsUpTo x y → is_lt (slice_cmp nat_cmp y.form x.form) ≡ false
not_below x y (inl below) =
    ap is_lt (nat_list_cmp_total.antisymm y.form x.form ∙ ap ordering_reverse below)
not_below x y (inr same) =
    ap is_lt (ap (λ (f : List ℕ). slice_cmp nat_cmp f x.form) (sym same)
    ∙ tied_itself nat_list_cmp_total x.form)

-- the places of forms about one form rise
pub place_rises : (form : List ℕ) (entries : List Entry) → AllPairs IsUpTo entries →
    IsNonDecreasingBy (λ (e : Entry). ordering_index (slice_cmp nat_cmp e.form form)) entries
place_rises form entries ordered =
    searchable_from_sorted nat_list_cmp_total (λ (e : Entry). e.form) entries form
    (λ k d low lt. not_below (get_or entries k d) (get_or entries (k + 1) d)
    (ordered k (k + 1) d (omega arith) lt))

-- the entries of the middle place are those of the form
pub filter-place : (form : List ℕ) (entries : List Entry) →
    filter (λ (e : Entry). ordering_index (slice_cmp nat_cmp e.form form) == 1) entries
    ≡ filter (λ (e : Entry). bytes_eq e.form form) entries
filter-place form entries =
    filter_agree _ _ (λ (e : Entry).
    sym (is_eq_index (slice_cmp nat_cmp e.form form)) ∙ is_eq-slice_cmp e.form form) entries

-- a front that two texts have in common doesn't count
pub cmp-front : (front text other : List ℕ) →
    slice_cmp nat_cmp (front ++ text) (front ++ other) ≡ slice_cmp nat_cmp text other
cmp-front [] text other = refl
cmp-front (b ∷ front) text other =
    ap (λ o. ordering_then o (slice_cmp nat_cmp (front ++ text) (front ++ other)))
    (tied_itself nat_cmp_total b) ∙ cmp-front front text other

-- of two texts, the one that isn't below isn't below as far as some bytes go either
pub cmp-take : (n : ℕ) (text other : List ℕ) → is_lt (slice_cmp nat_cmp text other) ≡ false →
    is_lt (slice_cmp nat_cmp (take n text) (take n other)) ≡ false
cmp-take zero text other up = refl
cmp-take (suc n) [] [] up = refl
cmp-take (suc n) [] (y ∷ other) up = up
cmp-take (suc n) (x ∷ text) [] up = refl
cmp-take (suc n) (x ∷ text) (y ∷ other) up = by (nat_cmp x y) (cmp-take n text other) up
  where
    by : (o : Ordering) → (is_lt (slice_cmp nat_cmp text other) ≡ false →
        is_lt (slice_cmp nat_cmp (take n text) (take n other)) ≡ false) →
        is_lt (ordering_then o (slice_cmp nat_cmp text other)) ≡ false →
        is_lt (ordering_then o (slice_cmp nat_cmp (take n text) (take n other))) ≡ false
    by Less more h = h
    by Equal more h = more h
    by Greater more h = refl

-- only the empty text isn't above the empty one
pub nil_only : (text : List ℕ) → is_lt (slice_cmp nat_cmp [] text) ≡ false → text ≡ []
nil_only [] h = refl
nil_only (x ∷ text) h = cc

pub index_equal : (o : Ordering) → ordering_index o ≡ 1 → o ≡ Equal
index_equal Less h = absurd (omega (arith, h))
index_equal Equal h = refl
index_equal Greater h = absurd (omega (arith, h))
