-- The lines of the hits, sorted and written, are the concordance.
use Rattle.std.proofs.Common.{arith, ◌≡◌, ℕ, ◌+◌, ◌-◌, ◌<◌, false, List, [], ◌∷◌, ◌++◌, zero, suc, refl, sym, ap, ◌∙◌, subst, length, map, get_or, take, append-nil, Less, Ordering}
use Rattle.std.specs.Prelude.{Some, slice_get}
use Rattle.std.specs.List.{flat_map}
use Rattle.std.specs.List.Sorted.{IsPermutation}
use Rattle.std.specs.Ordering.{is_lt}
use Rattle.std.proofs.lemmas.List.{map_push, take_more}
use Rattle.std.proofs.lemmas.Grind.{flat_map-append}
use Rattle.std.proofs.lemmas.List.Concat.{flat_map-cons}
use Rattle.std.proofs.lemmas.List.Elements.{All-map, All-push}
use Rattle.std.proofs.lemmas.List.Sorted.{All-permutation, IsPermutation-map}
use Rattle.std.proofs.lemmas.Option.{get_or_from_slice_get, same_Some, slice_get_within}
use Rattle.ux_base.specs.declared.settings.Sort.{Sort}
use Rattle.ux_tokens.specs.Tokens.{Token}
use Rattle.ux_outputs.specs.declared.hit.Hit.{Hit}
use Rattle.ux_concordance.specs.declared.line.LentLine.{LentLine}
use Rattle.ux_concordance.specs.Concordance.{IsConcordance, IsInContext, Line, line_cmp, written}
use Rattle.ux_concordance.specs.Lent.{AreFilled, AreLinesOf, AreSorted, IsFilled, IsLentLine, line_of}
use Rattle.ux_concordance.specs.Widths.{width}

module _ {A B : Type 0} (f : A → B) where
  -- an element of a list that is mapped comes from one of the list
  origin_at : (xs : List A) (k : ℕ) (y : B) → slice_get (map f xs) k ≡ Some y → (x : A) ×
      (slice_get xs k ≡ Some x) × (y ≡ f x)
  origin_at [] k y e = cc
  origin_at (x ∷ xs) zero y e = (x, refl, sym (same_Some (f x) y e))
  origin_at (x ∷ xs) (suc k) y e = origin_at xs k y e

-- the hits of the lines are those of what lends them
hits_of : (lent : List LentLine) →
    map (λ (line : Line). line.hit) (map line_of lent) ≡ map (λ (l : LentLine). l.hit.now) lent
hits_of [] = refl
hits_of (l ∷ lent) = ap (λ (hits : List Hit). l.hit.now ∷ hits) (hits_of lent)

less_not : (o : Ordering) → is_lt o ≡ false → o ≡ Less → ⊥
less_not o not less = cc

module _ (tokens : List Token) (left right : ℕ) (hits : List Hit) (made : List LentLine)
    (lines : AreLinesOf tokens left right hits made) where
  -- the lines that are made are filled, in any order
  pub lines_filled : (sorted : List LentLine) → IsPermutation made sorted → AreFilled left sorted
  lines_filled sorted moved =
      All-permutation (λ (l : LentLine). width l.left.now + l.spaces ≡ left) made sorted moved
      (λ k d within. (lines.each k d within).filled)

  -- sorted and written they are the concordance
  pub lines_concordance : (sort : Sort) (sorted : List LentLine) (text : List ℕ) →
      IsPermutation made sorted → AreSorted sort sorted →
      text ≡ flat_map (written left) (map line_of sorted) →
      IsConcordance tokens left right sort hits text
  lines_concordance sort sorted text moved in_order is = record {
    lines = map line_of sorted;
    each =
        subst (λ (l : List Hit).
        IsPermutation l (map (λ (line : Line). line.hit) (map line_of sorted)))
        lines.of
        (subst (λ (l : List Hit). IsPermutation (map (λ (l : LentLine). l.hit.now) made) l)
        (sym (hits_of sorted))
        (IsPermutation-map (λ (l : LentLine). l.hit.now) made sorted moved));
    contexts = All-map (IsInContext tokens left right) line_of sorted
        (All-permutation (λ (l : LentLine). IsInContext tokens left right (line_of l)) made sorted
        moved
        (λ k d within. (lines.each k d within).context));
    ordered = λ k a b first second less.
        let x = origin_at line_of sorted k a first in
        let y = origin_at line_of sorted (k + 1) b second in
        let within = slice_get_within sorted (k + 1) y.0 y.1 in
        let here = get_or_from_slice_get sorted k x.0 x.0 x.1 in
        let next = get_or_from_slice_get sorted (k + 1) y.0 x.0 y.1 in
        let not = in_order k x.0 (omega arith) (omega (arith, within)) in
        less_not (line_cmp sort (line_of y.0) (line_of x.0))
        (subst (λ (l : LentLine). is_lt (line_cmp sort (line_of l) (line_of x.0)) ≡ false) next
        (subst (λ (l : LentLine).
        is_lt (line_cmp sort (line_of (get_or sorted (k + 1) x.0)) (line_of l)) ≡ false) here not))
        (subst (λ (l : Line). line_cmp sort l (line_of x.0) ≡ Less) y.2
        (subst (λ (l : Line). line_cmp sort b l ≡ Less) x.2 less));
    is = is;
  }

-- the spaces of a line that is filled are those that it is written with
pub spaces_written : (columns : ℕ) (lent : LentLine) → IsFilled columns lent →
    columns - width lent.left.now ≡ lent.spaces
spaces_written columns lent filled = omega (arith, filled)

module _ (tokens : List Token) (left right : ℕ) where
  -- the line of one hit more
  pub lines_more : (hits : List Hit) (i : ℕ) (hit : Hit) (old new : List LentLine)
      (lent : LentLine) →
      i < length hits → hit ≡ get_or hits i hit → AreLinesOf tokens left right (take i hits) old →
      lent.hit.now ≡ hit → IsLentLine tokens left right lent → new ≡ old ++ lent ∷ [] →
      AreLinesOf tokens left right (take (i + 1) hits) new
  lines_more hits i hit old new lent within is lines same one pushed =
      subst (AreLinesOf tokens left right (take (i + 1) hits)) (sym pushed) (record {
        of = map_push (λ (l : LentLine). l.hit.now) old lent
            ∙ ap (λ (l : List Hit). l ++ lent.hit.now ∷ []) lines.of
            ∙ ap (λ (h : Hit). take i hits ++ h ∷ []) (same ∙ is)
            ∙ sym (take_more hits i hit within);
        each = All-push (IsLentLine tokens left right) old lent lines.each one;
      })

-- one line more is written
pub written_more : (columns : ℕ) (lines : List LentLine) (i : ℕ) (line : LentLine) →
    i < length lines → line ≡ get_or lines i line →
    flat_map (written columns) (map line_of (take (i + 1) lines))
    ≡ flat_map (written columns) (map line_of (take i lines)) ++ written columns (line_of line)
written_more columns lines i line within is =
    let so_far = map line_of (take i lines) in
    ap (λ (l : List LentLine). flat_map (written columns) (map line_of l))
    (take_more lines i line within ∙ ap (λ (l : LentLine). take i lines ++ l ∷ []) (sym is))
    ∙ ap (flat_map (written columns)) (map_push line_of (take i lines) line)
    ∙ flat_map-append (written columns) so_far (line_of line ∷ [])
    ∙ ap (λ (l : List ℕ). flat_map (written columns) so_far ++ l)
    (flat_map-cons (written columns) (line_of line) []
    ∙ append-nil (written columns (line_of line)))
