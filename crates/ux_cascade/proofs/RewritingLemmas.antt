-- A text is rewritten hit by hit: what is written so far, and the rest of the text with the hits that
-- begin there, make the whole.
use Rattle.std.proofs.Common.{arith, ◌≡◌, ℕ, suc, ◌+◌, ◌<◌, ◌≤◌, Bool, true, false, not, ◌&&◌, List, [], ◌∷◌, ◌++◌, refl, sym, ap, subst, ◌∙◌, length, drop, get_or, append_assoc, add-one, zero-add, drop-cons, inl, inr}
use Rattle.std.specs.Prelude.{◌⊎◌, ◌==◌, All, filter}
use Rattle.std.proofs.Math.Dec.{leb}
use Rattle.std.proofs.lemmas.Bool.Decides.{nat_tests}
use Rattle.std.proofs.lemmas.List.Elements.{All-cons, All-filter, All-head, All-tail, All-weaker, Contains-get_or}
use Rattle.ux_base.proofs.OrderedLists.{AllPairs-head, AllPairs-tail, filter-false, filter-true}
use Rattle.ux_tokens.specs.Tokens.{Token}
use Rattle.ux_outputs.specs.declared.hit.Hit.{Hit}
use Rattle.ux_outputs.specs.Rendering.{text_between}
use Rattle.ux_cascade.specs.Rewriting.{CanRewrite, IsInOrder, LiesIn, counted, replaced_from}

module _ {X : Type 0} (p q r : X → Bool) where
  filter_one : (x : X) (xs : List X) (a b : Bool) → q x ≡ a → p x ≡ b → (a && b) ≡ r x →
      filter p (filter q xs) ≡ filter r xs → filter p (filter q (x ∷ xs)) ≡ filter r (x ∷ xs)
  filter_one x xs true true e f g h =
      ap (λ (l : List X). filter p l) (filter-true q x xs e)
      ∙ (filter-true p x (filter q xs) f
      ∙ (ap (λ (l : List X). x ∷ l) h ∙ sym (filter-true r x xs (sym g))))
  filter_one x xs true false e f g h =
      ap (λ (l : List X). filter p l) (filter-true q x xs e)
      ∙ (filter-false p x (filter q xs) f ∙ (h ∙ sym (filter-false r x xs (sym g))))
  filter_one x xs false b e f g h =
      ap (λ (l : List X). filter p l) (filter-false q x xs e)
      ∙ (h ∙ sym (filter-false r x xs (sym g)))

  -- what passes one test and then another passes both at once
  filter_twice : (xs : List X) → All (λ x. (q x && p x) ≡ r x) xs →
      filter p (filter q xs) ≡ filter r xs
  filter_twice [] each = refl
  filter_twice (x ∷ xs) each =
      filter_one x xs (q x) (p x) refl refl
      (All-head (λ (y : X). (q y && p y) ≡ r y) x xs each)
      (filter_twice xs (All-tail (λ (y : X). (q y && p y) ≡ r y) x xs each))

-- all pass a test that each passes
filter_all : {X : Type 0} (p : X → Bool) (xs : List X) → ((x : X) → p x ≡ true) → filter p xs ≡ xs
filter_all p [] each = refl
filter_all {X} p (x ∷ xs) each =
    filter-true p x xs (each x) ∙ ap (λ (l : List X). x ∷ l) (filter_all p xs each)

-- the other hit begins elsewhere
abbrev apart : Hit → Hit → Bool
apart hit other = not (other.first == hit.first)

-- the hit begins at the place or behind it
abbrev pub begins_from : ℕ → Hit → Bool
begins_from place hit = leb place hit.first

-- what holds of each hit holds of those that count
All-counted : (P : Hit → Type 0) (hits : List Hit) → All P hits → All P (counted hits)
All-counted P [] each = each
All-counted P (hit ∷ hits) each =
    All-cons P hit (filter (apart hit) (counted hits)) (All-head P hit hits each)
    (All-filter (apart hit) P (counted hits) (All-counted P hits (All-tail P hit hits each)))

-- the hits that begin at a place or behind it
abbrev pub from_place : ℕ → List Hit → List Hit
from_place place hits = filter (begins_from place) hits

from_begin : (hits : List Hit) → from_place 0 hits ≡ hits
from_begin hits = filter_all (begins_from 0) hits (λ hit. begins hit.first)
  where
    begins : (n : ℕ) → leb 0 n ≡ true
    begins n = grind (arith, nat_tests)

module _ (hit : Hit) (rest : List Hit) (place : ℕ) where
  -- of hits behind a place one that begins before it changes nothing
  from_earlier : hit.first < place →
      from_place place (counted (hit ∷ rest)) ≡ from_place place (counted rest)
  from_earlier lt =
      filter-false (begins_from place) hit (filter (apart hit) (counted rest)) (before hit.first lt)
      ∙ filter_twice (begins_from place) (apart hit) (begins_from place) (counted rest)
      (λ k d within. other (get_or (counted rest) k d).first hit.first lt)
    where
      before : (n : ℕ) → n < place → leb place n ≡ false
      before n lt = grind (arith, nat_tests)

      other : (n first : ℕ) → first < place → (not (n == first) && leb place n) ≡ leb place n
      other n first lt = grind (arith, nat_tests)

  -- and where one begins that counts, the others begin behind its last token
  from_counted : place ≤ hit.first → hit.first ≤ hit.last → All (IsInOrder hit) rest →
      from_place place (counted (hit ∷ rest)) ≡ hit ∷ from_place (hit.last + 1) (counted rest)
  from_counted le in_order ordered =
      filter-true (begins_from place) hit (filter (apart hit) (counted rest)) (there hit.first le)
      ∙ ap (λ (l : List Hit). hit ∷ l)
      (filter_twice (begins_from place) (apart hit) (begins_from (hit.last + 1)) (counted rest)
      (All-weaker (IsInOrder hit)
      (λ (other : Hit).
      (apart hit other && begins_from place other) ≡ begins_from (hit.last + 1) other)
      (λ other behind. same other.first hit.first hit.last le in_order behind)
      (counted rest) (All-counted (IsInOrder hit) rest ordered)))
    where
      there : (n : ℕ) → place ≤ n → leb place n ≡ true
      there n le = grind (arith, nat_tests)

      together : (n first last : ℕ) → place ≤ first → first ≤ last → first ≡ n →
          (not (n == first) && leb place n) ≡ leb (last + 1) n
      together n first last le in_order same = grind (arith, nat_tests)

      behind : (n first last : ℕ) → place ≤ first → first ≤ last → last < n →
          (not (n == first) && leb place n) ≡ leb (last + 1) n
      behind n first last le in_order later = grind (arith, nat_tests)

      same : (n first last : ℕ) → place ≤ first → first ≤ last → (first ≡ n) ⊎ (last < n) →
          (not (n == first) && leb place n) ≡ leb (last + 1) n
      same n first last le in_order (inl at) = together n first last le in_order at
      same n first last le in_order (inr later) = behind n first last le in_order later

module _ (tokens : List Token) (hit : Hit) (rest : List Hit) (fits : CanRewrite tokens (hit ∷ rest))
  where
    fits_first : LiesIn tokens hit
    fits_first = All-head (LiesIn tokens) hit rest fits.lie

    fits_behind : All (IsInOrder hit) rest
    fits_behind k d within =
        AllPairs-head IsInOrder hit (get_or rest k d) rest fits.in_order
        (Contains-get_or rest k d within)

    fits_rest : CanRewrite tokens rest
    fits_rest = record {
      lie = All-tail (LiesIn tokens) hit rest fits.lie;
      in_order = AllPairs-tail IsInOrder hit rest fits.in_order;
    }

-- so far this is written, and so many hits were taken: with what follows from the place on it is the
-- whole
pub record IsSoFar (tokens : List Token) (all rest : List Hit) (written : List ℕ) (place spans : ℕ) :
    Type 0 where
  pub fits : CanRewrite tokens rest
  pub text : written ++ replaced_from tokens place (from_place place (counted rest))
      ≡ replaced_from tokens 0 (counted all)
  pub count : spans + length (from_place place (counted rest)) ≡ length (counted all)
  pub few : spans ≤ place
  pub within : place ≤ length tokens

module _ (tokens : List Token) (all : List Hit) where
  pub so_far_none : CanRewrite tokens all → IsSoFar tokens all all [] 0 0
  so_far_none fits = record {
    fits = fits;
    text = ap (λ (l : List Hit). replaced_from tokens 0 l) (from_begin (counted all));
    count = zero-add (length (from_place 0 (counted all))) ∙ ap length (from_begin (counted all));
    few = omega arith;
    within = omega arith;
  }

  module _ (hit : Hit) (rest : List Hit) (written : List ℕ) (place spans : ℕ)
      (so_far : IsSoFar tokens all (hit ∷ rest) written place spans) where
    -- a hit that doesn't count
    so_far_passed : hit.first < place → IsSoFar tokens all rest written place spans
    so_far_passed lt =
        let same = from_earlier hit rest place lt in
        let longer : length (from_place place (counted (hit ∷ rest)))
        ≡ length (from_place place (counted rest)) = ap length same in
        record {
          fits = fits_rest tokens hit rest so_far.fits;
          text = ap (λ (l : List Hit). written ++ replaced_from tokens place l) (sym same)
              ∙ so_far.text;
          count = ap (λ n. spans + n) (sym longer) ∙ so_far.count;
          few = so_far.few;
          within = so_far.within;
        }

    more : (n a b : ℕ) → a ≡ suc b → n + 1 + b ≡ n + a
    more n a b e = omega (arith, e)

    -- a hit that counts
    so_far_taken : place ≤ hit.first →
        IsSoFar tokens all rest (written ++ text_between tokens place hit.first ++ hit.text)
        (hit.last + 1) (spans + 1)
    so_far_taken le =
        let lies = fits_first tokens hit rest so_far.fits in
        let same = from_counted hit rest place le lies.in_order
        (fits_behind tokens hit rest so_far.fits) in
        let later = from_place (hit.last + 1) (counted rest) in
        let parts = replaced_from tokens (hit.last + 1) later in
        let longer : length (from_place place (counted (hit ∷ rest))) ≡ suc (length later) =
        ap length same in
        record {
          fits = fits_rest tokens hit rest so_far.fits;
          text = append_assoc (written ++ text_between tokens place hit.first) hit.text parts
              ∙ (append_assoc written (text_between tokens place hit.first) (hit.text ++ parts)
              ∙ (ap (λ (l : List ℕ). written ++ l)
              (sym (append_assoc (text_between tokens place hit.first) hit.text parts))
              ∙ (ap (λ (l : List Hit). written ++ replaced_from tokens place l) (sym same)
              ∙ so_far.text)));
          count = more spans (length (from_place place (counted (hit ∷ rest)))) (length later) longer
              ∙ so_far.count;
          few = omega (arith, so_far.few, le, lies.in_order);
          within = omega (arith, lies.within);
        }

  -- the hits from one on are that hit and the later ones
  rest_is : (i : ℕ) (hit : Hit) → i < length all → hit ≡ get_or all i hit →
      drop i all ≡ hit ∷ drop (i + 1) all
  rest_is i hit within is =
      drop-cons all i hit within
      ∙ (ap (λ (h : Hit). h ∷ drop (suc i) all) (sym is)
      ∙ ap (λ n. hit ∷ drop n all) (sym (add-one i)))

  module _ (i : ℕ) (hit : Hit) (inside : i < length all) (is : hit ≡ get_or all i hit)
      (written : List ℕ) (place spans : ℕ)
      (so_far : IsSoFar tokens all (drop i all) written place spans) where
    here : IsSoFar tokens all (hit ∷ drop (i + 1) all) written place spans
    here =
        subst (λ (l : List Hit). IsSoFar tokens all l written place spans) (rest_is i hit inside is)
        so_far

    -- the next hit doesn't count
    pub passed_at : hit.first < place → IsSoFar tokens all (drop (i + 1) all) written place spans
    passed_at lt = so_far_passed hit (drop (i + 1) all) written place spans here lt

    -- the next hit counts
    pub taken_at : place ≤ hit.first → (after : List ℕ) →
        after ≡ written ++ text_between tokens place hit.first ++ hit.text →
        IsSoFar tokens all (drop (i + 1) all) after (hit.last + 1) (spans + 1)
    taken_at le after e =
        subst (λ (l : List ℕ).
        IsSoFar tokens all (drop (i + 1) all) l (hit.last + 1) (spans + 1)) (sym e)
        (so_far_taken hit (drop (i + 1) all) written place spans here le)
