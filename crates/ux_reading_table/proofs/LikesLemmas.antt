-- Readings that are alike, noted one after the other.
use Rattle.std.proofs.Common.{arith, ◌≡◌, ◌⊎◌, ℕ, zero, suc, ◌<◌, List, [], ◌∷◌, ◌++◌, length, Option, None, Some, inl, inr, refl, sym, ◌∙◌, ap, subst}
use Rattle.std.specs.Prelude.{IfSome, slice_get}
use Rattle.std.proofs.lemmas.Option.{same_Some, slice_get_cases, slice_get_within}
use Rattle.ux_base.proofs.DistinctLemmas.{slice_get-append}
use Rattle.ux_dela.specs.Printed.{IsCodesText}
use Rattle.ux_dela.specs.declared.entry.Codes.{Codes}
use Rattle.ux_reading_table.specs.Alike.{AreAlike, HasCodesAt, IsAlike}
use Rattle.ux_reading_table.specs.Liking.{AreFirsts, AreLikes, HasCodesOf, HasCodesText}
use Rattle.ux_reading_table.specs.Noting.{KeepsPlaces}
use Rattle.ux_reading_table.specs.Numbered.{IsPlaceOfText}
use Rattle.ux_reading_table.specs.Bare.{KeepsCodes}
use Rattle.ux_reading_table.specs.declared.likes.Likes.{Likes}

-- what stands in a longer list stood there, or is the last
pub push_cases : {X : Type 0} (xs : List X) (x : X) (place : ℕ) (one : X) →
    slice_get (xs ++ x ∷ []) place ≡ Some one →
    (slice_get xs place ≡ Some one) ⊎ ((place ≡ length xs) × (one ≡ x))
push_cases [] x zero one at = inr (refl, sym (same_Some x one at))
push_cases [] x (suc place) one at = cc
push_cases (y ∷ xs) x zero one at = inl at
push_cases (y ∷ xs) x (suc place) one at = elim (push_cases xs x place one at) [
  | inl old ↦ inl old
  | inr both ↦ inr (ap suc both.0, both.1)
]

-- codes stay where others come behind them
pub codes_still : (codes new : List Codes) (last : Codes) → new ≡ codes ++ last ∷ [] →
    KeepsCodes codes new
codes_still codes new last grown place one at =
    subst (λ (cs : List Codes). slice_get cs place ≡ Some one) (sym grown)
    (slice_get-append codes (last ∷ []) place one at)

-- no codes stand at the end
pub codes_past : (codes : List Codes) (text : List ℕ) (place : ℕ) → place ≡ length codes →
    (one : Codes) → slice_get codes place ≡ Some one → IsCodesText text one
codes_past codes text place end one at =
    absurd (omega (arith, end, slice_get_within codes place one at))

-- and then those that came
pub codes_last : (codes new : List Codes) (last : Codes) (text : List ℕ) (place : ℕ) →
    place ≡ length codes → new ≡ codes ++ last ∷ [] → IsCodesText text last →
    (one : Codes) → slice_get new place ≡ Some one → IsCodesText text one
codes_last codes new last text place end grown are one at =
    elim (push_cases codes last place one
    (subst (λ (cs : List Codes). slice_get cs place ≡ Some one) grown at)) [
      | inl old ↦ codes_past codes text place end one old
      | inr both ↦ subst (IsCodesText text) (sym both.1) are
    ]

-- codes of a text are those of its number
pub codes_numbered : (texts : List (List ℕ)) (codes : List Codes) (text : List ℕ) (number : ℕ)
    (place : Option ℕ) → IsPlaceOfText texts text number →
    IfSome place (HasCodesText codes text) →
    IfSome place (λ place. HasCodesOf texts codes place number)
codes_numbered texts codes text number None at has = tt
codes_numbered texts codes text number (Some place) at has = λ one is. (text, at, has one is)

module _ (texts : List (List ℕ)) (codes : List Codes) where
  -- a reading with known codes is the first one
  pub firsts_more : (firsts new : List ℕ) (place number : ℕ) → place ≡ length firsts →
      place < length codes → new ≡ firsts ++ number ∷ [] → AreFirsts texts codes firsts →
      HasCodesOf texts codes place number → AreFirsts texts codes new
  firsts_more firsts new place number end inside grown are has at first is =
      elim (push_cases firsts number at first
      (subst (λ (fs : List ℕ). slice_get fs at ≡ Some first) grown is)) [
        | inl old ↦ are at first old
        | inr both ↦
            let found : (one : Codes) × (slice_get codes place ≡ Some one) =
            elim (slice_get_cases codes place).1 [
              | inl there ↦ (there.0, there.2)
              | inr past ↦ absurd (omega (arith, past.0, inside))
            ] in (
              found.0,
              ap (slice_get codes) (both.0 ∙ sym end) ∙ found.1,
              subst (HasCodesAt texts found.0) (sym both.1) (has found.0 found.1),
            )
      ]

  -- a reading with the codes of the first one is like it
  pub like_first : (firsts : List ℕ) (place first number : ℕ) →
      slice_get firsts place ≡ Some first → AreFirsts texts codes firsts →
      HasCodesOf texts codes place number → AreFirsts texts codes firsts × IsAlike texts number first
  like_first firsts place first number at are has =
      let found = are place first at in
      (are, inr (found.0, has found.0 found.1, found.2))

  -- one more reading is noted
  pub likes_more : (likes new : Likes) (number like : ℕ) → number ≡ length likes.alike.items →
      new.alike.items ≡ likes.alike.items ++ like ∷ [] → AreAlike texts likes.alike.items →
      AreFirsts texts codes new.firsts.items × IsAlike texts number like →
      AreLikes texts codes new
  likes_more likes new number like end grown are both = record {
    alike = λ place other is. elim (push_cases likes.alike.items like place other
        (subst (λ (ls : List ℕ). slice_get ls place ≡ Some other) grown is)) [
          | inl old ↦ are place other old
          | inr last ↦
              subst (λ (n : ℕ). IsAlike texts n other) (end ∙ sym last.0)
              (subst (IsAlike texts number) (sym last.1) both.1)
        ];
    firsts = both.0;
  }

-- codes at a place stay there
has_still : (texts new : List (List ℕ)) (one : Codes) (place : ℕ) → KeepsPlaces texts new →
    HasCodesAt texts one place → HasCodesAt new one place
has_still texts new one place kept has = (has.0, kept place has.0 has.1, has.2)

-- readings that were alike are so still
pub likes_still : (texts new : List (List ℕ)) (codes more : List Codes) (likes : Likes) →
    KeepsPlaces texts new → KeepsCodes codes more → AreLikes texts codes likes →
    AreLikes new more likes
likes_still texts new codes more likes kept keeps are = record {
  alike = λ place other at. elim (are.alike place other at) [
    | inl same ↦ inl same
    | inr both ↦ inr (
      both.0,
      has_still texts new both.0 place kept both.1,
      has_still texts new both.0 other kept both.2,
    )
  ];
  firsts = λ place first at.
      let found = are.firsts place first at in (
        found.0,
        keeps place found.0 found.1,
        has_still texts new found.0 first kept found.2,
      );
}
