-- The characters of two texts from the last to the first, and how they compare.
use Rattle.std.proofs.Common.{◌≡◌, ℕ, true, false, List, [], ◌∷◌, ◌++◌, refl, ap, ◌∙◌, encode_utf8, IsUtf8, reverse}
use Rattle.std.specs.Str.{chars}
use Rattle.std.specs.Ordering.{is_ne, nat_cmp, ordering_then}
use Rattle.std.specs.Cmp.Lexicographic.{slice_cmp}
use Rattle.std.specs.declared.cmp.Ordering.{Ordering}
use Rattle.std.specs.declared.cmp.Ordering.TheVariants.{Less, Equal, Greater}
use Rattle.std.proofs.lemmas.List.{reverse-append}
use Rattle.std.proofs.lemmas.Str.{chars-append, chars-nil}
use Rattle.ux_concordance.proofs.WidthLemmas.{chars-one, whole-end}

-- the last character comes first
pub backwards-last : (text front : List ℕ) (c : ℕ) → IsUtf8 text → IsUtf8 front →
    text ≡ front ++ encode_utf8 c → reverse (chars text) ≡ c ∷ reverse (chars front)
backwards-last text front c whole first is =
    let last = whole-end text front (encode_utf8 c) is whole first in
    ap (λ (l : List ℕ). reverse (chars l)) is
    ∙ ap reverse (chars-append front (encode_utf8 c) first)
    ∙ ap (λ (l : List ℕ). reverse (chars front ++ l)) (chars-one c last)
    ∙ reverse-append (chars front) (c ∷ [])

pub backwards-none : (text : List ℕ) → text ≡ [] → reverse (chars text) ≡ []
backwards-none text is = ap (λ (l : List ℕ). reverse (chars l)) is ∙ ap reverse chars-nil

then-ne : (o later : Ordering) → is_ne o ≡ true → ordering_then o later ≡ o
then-ne Less later ne = refl
then-ne Equal later ne = cc
then-ne Greater later ne = refl

then-eq : (o later : Ordering) → is_ne o ≡ false → ordering_then o later ≡ later
then-eq Less later eq = cc
then-eq Equal later eq = refl
then-eq Greater later eq = cc

-- one text ends before the other
pub cmp-short : (xs ys later : List ℕ) (y : ℕ) → xs ≡ [] → ys ≡ y ∷ later →
    slice_cmp nat_cmp xs ys ≡ Less
cmp-short xs ys later y first second =
    ap (λ (l : List ℕ). slice_cmp nat_cmp l ys) first ∙ ap (slice_cmp nat_cmp []) second

pub cmp-long : (xs ys later : List ℕ) (x : ℕ) → xs ≡ x ∷ later → ys ≡ [] →
    slice_cmp nat_cmp xs ys ≡ Greater
cmp-long xs ys later x first second =
    ap (λ (l : List ℕ). slice_cmp nat_cmp l ys) first ∙ ap (slice_cmp nat_cmp (x ∷ later)) second

pub cmp-none : (xs ys : List ℕ) → xs ≡ [] → ys ≡ [] → slice_cmp nat_cmp xs ys ≡ Equal
cmp-none xs ys first second =
    ap (λ (l : List ℕ). slice_cmp nat_cmp l ys) first ∙ ap (slice_cmp nat_cmp []) second

module _ (xs ys later : List ℕ) (x y : ℕ) (xs_is : xs ≡ x ∷ later) where
  -- the first characters are different
  pub cmp-ne : (others : List ℕ) → ys ≡ y ∷ others → is_ne (nat_cmp x y) ≡ true →
      slice_cmp nat_cmp xs ys ≡ nat_cmp x y
  cmp-ne others ys_is ne =
      ap (λ (l : List ℕ). slice_cmp nat_cmp l ys) xs_is
      ∙ ap (λ (l : List ℕ). slice_cmp nat_cmp (x ∷ later) l) ys_is
      ∙ then-ne (nat_cmp x y) (slice_cmp nat_cmp later others) ne

  -- they are equal
  pub cmp-eq : (others : List ℕ) → ys ≡ y ∷ others → is_ne (nat_cmp x y) ≡ false →
      slice_cmp nat_cmp xs ys ≡ slice_cmp nat_cmp later others
  cmp-eq others ys_is eq =
      ap (λ (l : List ℕ). slice_cmp nat_cmp l ys) xs_is
      ∙ ap (λ (l : List ℕ). slice_cmp nat_cmp (x ∷ later) l) ys_is
      ∙ then-eq (nat_cmp x y) (slice_cmp nat_cmp later others) eq
