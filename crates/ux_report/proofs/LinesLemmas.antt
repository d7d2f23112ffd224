-- Lines as they are collected, one after the other.
use Rattle.std.proofs.Common.{arith, ◌≡◌, ◌↔◌, ◌⊎◌, ℕ, ◌+◌, ◌<◌, ◌≤◌, Bool, true, false, cond, List, [], ◌∷◌, ◌++◌, append-nil, append_assoc, length, get_or, take, refl, sym, ◌∙◌, ap, subst, inl, inr}
use Rattle.std.specs.Prelude.{Contains, IsSomeAnd, Option, None, Some, slice_get}
use Rattle.std.specs.List.{IsDistinct, dedup, dedup_from, flat_map, list_any}
use Rattle.std.specs.Str.{bytes_eq}
use Rattle.std.proofs.lemmas.Slice.Eq.{bytes_eq-Decides}
use Rattle.std.proofs.lemmas.Grind.{flat_map-append}
use Rattle.std.proofs.lemmas.List.{take_more, take_all}
use Rattle.std.proofs.lemmas.List.Elements.{Contains-append_left, Contains-push, Contains-push_cases}
use Rattle.std.proofs.lemmas.Option.{same_Some}
use Rattle.std.proofs.lemmas.Bool.{cases_eq}
use Rattle.indexmap.specs.IndexSet.{insert_key}
use Rattle.indexmap.proofs.CallerLemmas.{Contains-list_any}
use Rattle.ux_dela.specs.declared.entry.Entry.{Entry}
use Rattle.ux_tokens.specs.TokenFile.{line_of}
use Rattle.ux_lexical_tables.specs.Tables.{Tables}
use Rattle.ux_report.specs.Lines.{FromSome, HasMore, IsCompoundBefore, IsLongerPrinted}

-- no line more
pub more-nothing : (P : List ℕ → Type 0) (old : List (List ℕ)) →
    ((line : List ℕ) → P line → ⊥) → HasMore old P old
more-nothing P old none line = (
  λ has. inl has,
  λ one. elim one [
    | inl there ↦ there
    | inr is ↦ absurd (none line is)
  ],
)

-- lines that are such by one property are such by another one that says the same
pub more-same : (P Q : List ℕ → Type 0) (old all_new : List (List ℕ)) →
    ((line : List ℕ) → P line ↔ Q line) → HasMore old P all_new → HasMore old Q all_new
more-same P Q old all_new same more line = (
  λ has. elim ((more line).0 has) [
    | inl was ↦ inl was
    | inr is ↦ inr ((same line).0 is)
  ],
  λ one. elim one [
    | inl was ↦ (more line).1 (inl was)
    | inr is ↦ (more line).1 (inr ((same line).1 is))
  ],
)

-- nothing is a member of the empty list
pub none-in : {X : Type 0} (x : X) → Contains [] x → ⊥
none-in x has = omega (arith, has.1)

module _ {X : Type 0} (P : X → List ℕ → Type 0) where
  -- no line comes from nothing
  pub more-none : (old : List (List ℕ)) → HasMore old (FromSome [] P) old
  more-none old line = (
    λ has. inl has,
    λ one. elim one [
      | inl there ↦ there
      | inr from ↦ absurd (none-in from.0 from.1)
    ],
  )

  -- the lines of one more
  pub more-next : (xs : List X) (i : ℕ) (d : X) → i < length xs →
      (old now all_new : List (List ℕ)) → HasMore old (FromSome (take i xs) P) now →
      HasMore now (P (get_or xs i d)) all_new → HasMore old (FromSome (take (i + 1) xs) P) all_new
  more-next xs i d lt old now all_new before here line =
      let x = get_or xs i d in
      let front : take (i + 1) xs ≡ take i xs ++ x ∷ [] = take_more xs i d lt in
      subst (λ (l : List X). Contains all_new line ↔ (Contains old line ⊎ FromSome l P line))
      (sym front) (
        λ has. elim ((here line).0 has) [
          | inl there ↦ elim ((before line).0 there) [
            | inl was ↦ inl was
            | inr from ↦
                inr (from.0, Contains-append_left (take i xs) (x ∷ []) from.0 from.1, from.2)
          ]
          | inr more ↦ inr (x, Contains-push (take i xs) x, more)
        ],
        λ one. elim one [
          | inl was ↦ (here line).1 (inl ((before line).1 (inl was)))
          | inr from ↦ elim (Contains-push_cases (take i xs) x from.0 from.1) [
            | inl there ↦ (here line).1 (inl ((before line).1 (inr (from.0, there, from.2))))
            | inr is ↦ (here line).1 (inr (subst (λ (y : X). P y line) (sym is) from.2))
          ]
        ],
      )

  pub more-item : (xs : List X) (i : ℕ) (x : X) → i < length xs → x ≡ get_or xs i x →
      (old now all_new : List (List ℕ)) → HasMore old (FromSome (take i xs) P) now →
      HasMore now (P x) all_new → HasMore old (FromSome (take (i + 1) xs) P) all_new
  more-item xs i x lt at old now all_new before here =
      more-next xs i x lt old now all_new before
      (subst (λ (y : X). HasMore now (P y) all_new) at here)

  -- at the end
  pub more-all : (xs : List X) (i : ℕ) → length xs ≤ i → (old now : List (List ℕ)) →
      HasMore old (FromSome (take i xs) P) now → HasMore old (FromSome xs P) now
  more-all xs i past old now before =
      subst (λ (l : List X). HasMore old (FromSome l P) now) (take_all i xs past) before

module _ (tables : Tables) where
  -- no line begins before the first token
  pub before-none : (old : List (List ℕ)) → HasMore old (IsCompoundBefore tables 0) old
  before-none old line = (
    λ has. inl has,
    λ one. elim one [
      | inl there ↦ there
      | inr from ↦ absurd (omega (arith, from.1))
    ],
  )

  -- the lines of one row more
  pub before-next : (first : ℕ) (row : List (ℕ × Entry)) →
      IsSomeAnd (slice_get tables.compounds first) (λ there. row ≡ there) →
      (old now all_new : List (List ℕ)) → HasMore old (IsCompoundBefore tables first) now →
      HasMore now (FromSome row (IsLongerPrinted first)) all_new →
      HasMore old (IsCompoundBefore tables (first + 1)) all_new
  before-next first row is old now all_new before here line =
      let at = stands (slice_get tables.compounds first) is in (
        λ has. elim ((here line).0 has) [
          | inl there ↦ elim ((before line).0 there) [
            | inl was ↦ inl was
            | inr from ↦ inr (from.0, omega (arith, from.1), from.2)
          ]
          | inr more ↦ inr (first, omega arith, (row, at, more))
        ],
        λ one. elim one [
          | inl was ↦ (here line).1 (inl ((before line).1 (inl was)))
          | inr from ↦ elim (cases_eq from.0 first) [
            | inl same ↦ (here line).1 (inr (here_too from same at))
            | inr other ↦
                (here line).1 (inl ((before line).1 (inr (from.0, omega (arith, from.1, other), from.2))))
          ]
        ],
      )
    where
      stands : (o : Option (List (ℕ × Entry))) → IsSomeAnd o (λ there. row ≡ there) → o ≡ Some row
      stands None given = absurd given
      stands (Some there) given = ap (λ (l : List (ℕ × Entry)). Some l) (sym given)

      here_too : (from : IsCompoundBefore tables (first + 1) line) → from.0 ≡ first →
          slice_get tables.compounds first ≡ Some row → FromSome row (IsLongerPrinted first) line
      here_too from same at =
          let one : from.2.0 ≡ row =
          same_Some from.2.0 row
          (sym from.2.1 ∙ (ap (slice_get tables.compounds) same ∙ at)) in
          subst (λ (l : List (ℕ × Entry)). FromSome l (IsLongerPrinted first) line) one
          (subst (λ (k : ℕ). FromSome from.2.0 (IsLongerPrinted k) line) same from.2.2)

-- what is collected from nothing are such lines alone
pub exact-of : (P : List ℕ → Type 0) (lines : List (List ℕ)) → HasMore [] P lines →
    (line : List ℕ) → Contains lines line ↔ P line
exact-of P lines more line = (
  λ has. elim ((more line).0 has) [
    | inl there ↦ absurd (none-in line there)
    | inr is ↦ is
  ],
  λ is. (more line).1 (inr is),
)

-- a set with one line more
pub more-insert : (old all_new : List (List ℕ)) (line : List ℕ) →
    all_new ≡ insert_key bytes_eq old line →
    HasMore old (λ (other : List ℕ). other ≡ line) all_new
more-insert old all_new line made = by (list_any (bytes_eq line) old) refl
  where
    exact : (x y : List ℕ) → bytes_eq x y ≡ true → x ≡ y
    exact x y = (bytes_eq-Decides x y).0

    by : (there : Bool) → list_any (bytes_eq line) old ≡ there →
        HasMore old (λ (other : List ℕ). other ≡ line) all_new
    by true found =
        let same : all_new ≡ old = made ∙ ap (λ c. cond c old (old ++ line ∷ [])) found in
        subst (λ (l : List (List ℕ)). HasMore old (λ (other : List ℕ). other ≡ line) l) (sym same)
        (λ other. (
          λ has. inl has,
          λ one. elim one [
            | inl has ↦ has
            | inr is ↦ subst (Contains old) (sym is) (Contains-list_any bytes_eq exact old line found)
          ],
        ))
    by false missed =
        let grown : all_new ≡ old ++ line ∷ [] =
        made ∙ ap (λ c. cond c old (old ++ line ∷ [])) missed in
        subst (λ (l : List (List ℕ)). HasMore old (λ (other : List ℕ). other ≡ line) l) (sym grown)
        (λ other. (
          λ has. elim (Contains-push_cases old line other has) [
            | inl was ↦ inl was
            | inr is ↦ inr (sym is)
          ],
          λ one. elim one [
            | inl was ↦ Contains-append_left old (line ∷ []) other was
            | inr is ↦ subst (Contains (old ++ line ∷ [])) (sym is) (Contains-push old line)
          ],
        ))

-- a list in which no item stands twice is as it was after `dedup`
module _ {X : Type 0} (same : X → X → Bool) (flips : (x y : X) → same x y ≡ same y x) where
  dedup_from-distinct : (x : X) (xs : List X) → IsDistinct same (x ∷ xs) →
      dedup_from same x xs ≡ x ∷ xs
  unfolding IsDistinct
  dedup_from-distinct x [] once = refl
  dedup_from-distinct x (y ∷ ys) once =
      let differ : same y x ≡ false = flips y x ∙ once.0.0 in
      ap (λ c. cond c (dedup_from same x ys) (x ∷ dedup_from same y ys)) differ
      ∙ ap (λ (l : List X). x ∷ l) (dedup_from-distinct y ys once.1)

  pub dedup-distinct : (xs : List X) → IsDistinct same xs → dedup same xs ≡ xs
  dedup-distinct [] once = refl
  dedup-distinct (x ∷ xs) once = dedup_from-distinct x xs once

-- one line more is written
pub written-more : (lines : List (List ℕ)) (i : ℕ) (line : List ℕ) → i < length lines →
    line ≡ get_or lines i line → (old now all_new : List ℕ) →
    now ≡ old ++ flat_map line_of (take i lines) → all_new ≡ now ++ line_of line →
    all_new ≡ old ++ flat_map line_of (take (i + 1) lines)
written-more lines i line lt at old now all_new before grown =
    let so_far = flat_map line_of (take i lines) in
    let more : take (i + 1) lines ≡ take i lines ++ line ∷ [] =
    take_more lines i line lt ∙ ap (λ (l : List ℕ). take i lines ++ l ∷ []) (sym at) in
    let written : flat_map line_of (take (i + 1) lines) ≡ so_far ++ line_of line =
    ap (flat_map line_of) more
    ∙ (flat_map-append line_of (take i lines) (line ∷ [])
    ∙ ap (λ (l : List ℕ). so_far ++ l) (append-nil (line_of line))) in
    grown
    ∙ (ap (λ (l : List ℕ). l ++ line_of line) before
    ∙ (append_assoc old so_far (line_of line)
    ∙ ap (λ (l : List ℕ). old ++ l) (sym written)))
