-- What two passes leave, and when nothing is left.
use Rattle.std.proofs.Common.{arith, ◌≡◌, ℕ, suc, ◌+◌, ◌<◌, ◌↔◌, inl, inr, List, [], ◌∷◌, ◌++◌, refl, sym, subst, ◌∙◌, get_or}
use Rattle.std.specs.Prelude.{Contains, Option, Some, None, IfSome, IfNone}
use Rattle.std.proofs.lemmas.Option.{IfSome_then}
use Rattle.ux_subsets.specs.declared.automaton.Automaton.{Automaton}
use Rattle.std.specs.List.{slice_index}
use Rattle.std.specs.List.Sorted.{IsStrictlyIncreasing}
use Rattle.std.proofs.lemmas.List.{get_or_default}
use Rattle.ux_subsets.specs.declared.automaton.Link.{Link}
use Rattle.ux_subsets.specs.Paths.{link, IsAscending, Spells, reversed, IsLeft}
use Rattle.ux_subsets.specs.Building.{states_at, seen_at, IsPass}
use Rattle.ux_subsets.specs.Turning.{HasEnd, IsTurned}
use Rattle.ux_subsets.proofs.ElementsLemmas.{nothing_in, first_or_later, contains_first, contains_later}
use Rattle.ux_subsets.proofs.NotingLemmas.{rises}
use Rattle.ux_subsets.proofs.SpellingLemmas.{Reads, reads_append, spells_iff}
use Rattle.ux_subsets.proofs.SubsetsSpellLemmas.{exact, reached_by}
use Rattle.ux_subsets.proofs.LeftLemmas.{is_left, last_link}

tail_up : (x : ℕ) (xs : List ℕ) → IsStrictlyIncreasing (x ∷ xs) → IsStrictlyIncreasing xs
tail_up x xs up = λ k lt.
    let e : suc k + 1 ≡ suc (k + 1) = omega arith in
    subst (λ (i : ℕ). slice_index (x ∷ xs) (suc k) < slice_index (x ∷ xs) i) e (up (suc k) (omega (arith, lt)))

pub head_below : (x : ℕ) (xs : List ℕ) → IsStrictlyIncreasing (x ∷ xs) → (t : ℕ) → Contains xs t → x < t
head_below x xs up t h =
    let inside = h.1 in
    let less = rises (x ∷ xs) up 0 h.0 (omega (arith, inside)) in
    let e : 0 + h.0 + 1 ≡ suc h.0 = omega arith in
    let less' : x < get_or xs h.0 0 = subst (λ (i : ℕ). x < get_or (x ∷ xs) i 0) e less in
    let d : get_or xs h.0 t ≡ get_or xs h.0 0 = get_or_default xs h.0 t 0 inside in
    let is = h.2 in
    omega (arith, less', d, is)

-- ascending lists with the same elements are the same
pub same_elements : (xs ys : List ℕ) → IsStrictlyIncreasing xs → IsStrictlyIncreasing ys → ((t : ℕ) → Contains xs t ↔ Contains ys t) → xs ≡ ys
same_elements [] [] up vp same = refl
same_elements [] (y ∷ ys) up vp same = absurd (nothing_in ((same y).1 (contains_first y ys)))
same_elements (x ∷ xs) [] up vp same = absurd (nothing_in ((same x).0 (contains_first x xs)))
same_elements (x ∷ xs) (y ∷ ys) up vp same =
    let e : x ≡ y = elim (first_or_later y ys x ((same x).0 (contains_first x xs))) [
      | inl e ↦ sym e
      | inr l ↦ elim (first_or_later x xs y ((same y).1 (contains_first y ys))) [
        | inl e ↦ e
        | inr m ↦ let a = head_below y ys vp x l in let b = head_below x xs up y m in absurd (omega (arith, a, b))
      ]
    ] in
    let rest : xs ≡ ys = same_elements xs ys (tail_up x xs up) (tail_up y ys vp) (λ t. (
      λ h. elim (first_or_later y ys t ((same t).0 (contains_later x xs t h))) [
        | inl is ↦ let b = head_below x xs up t h in absurd (omega (arith, is, e, b))
        | inr l ↦ l
      ],
      λ h. elim (first_or_later x xs t ((same t).1 (contains_later y ys t h))) [
        | inl is ↦ let b = head_below y ys vp t h in absurd (omega (arith, is, e, b))
        | inr l ↦ l
      ],
    )) in
    cc

module _ {Stands : ℕ → List ℕ → Type 0} {Satisfies : List ℕ → Type 0} (last : ℕ) (links : List Link) (up : IsAscending last links) (some : 0 < last)
    (last1 : ℕ) (links1 : List Link) (forth : IsPass Stands Satisfies last links last1 links1) where
  exact1 : (w : List ℕ) → Reads links1 0 last1 w ↔ (Reads links 0 last w × Satisfies w)
  exact1 = exact Stands Satisfies last links up (λ n s. Contains (states_at forth.sets n) s) (seen_at forth.sets) last1 links1 forth.are some forth.some

  -- where no link leads to the last state, no list satisfies
  pub nothing_left_over : (HasEnd last1 links1 → ⊥) → (w : List ℕ) → Spells links 0 last w → Satisfies w → ⊥
  nothing_left_over never w spelled accepted = by w ((exact1 w).1 ((spells_iff links w 0 last).0 spelled, accepted))
    where
      by : (w : List ℕ) → Reads links1 0 last1 w → ⊥
      by [] h = let s = forth.some in omega (arith, h, s)
      by (r ∷ w) h = let l = last_link links1 r w 0 last1 h in never (link l.0 last1 l.1, l.2, refl)

  pub two_passes : HasEnd last1 links1 → (last2 : ℕ) (links2 : List Link) →
      IsPass (λ (q : ℕ) (w : List ℕ). q ≡ 0) (λ w. Unit {0}) last1 (reversed last1 links1) last2 links2 →
      IsLeft Satisfies last links last2 (reversed last2 links2)
  two_passes end last2 links2 again =
      let l = end.0 in
      let from = forth.are.from_inside l end.1 in
      let v = reached_by Stands Satisfies last links up (λ n s. Contains (states_at forth.sets n) s) (seen_at forth.sets) last1 links1 forth.are l.from from in
      let word : List ℕ = v.0 ++ l.reading ∷ [] in
      let whole : Reads links1 0 last1 word = subst (λ (t : ℕ). Reads links1 0 t word) end.2
      (reads_append links1 v.0 (l.reading ∷ []) 0 l.from l.to v.1 (l.to, end.1, refl)) in
      let told = (exact1 word).0 whole in
      is_left Stands Satisfies last links up some (λ n s. Contains (states_at forth.sets n) s) (seen_at forth.sets) last1 links1 forth.some forth.are
      (λ (q : ℕ) (w : List ℕ). q ≡ 0) (λ n s. Contains (states_at again.sets n) s) (seen_at again.sets) last2 links2 again.some again.are again.stood
      (λ n k ln lk same. again.different n k ln lk
      (same_elements (states_at again.sets n) (states_at again.sets k) (again.sorted n ln) (again.sorted k lk) same)
      ((again.stood n ln).1 ∙ sym (again.stood k lk).1))
      word told.0 told.1

  pub turned_left : (answer : Option Automaton) →
      IfSome answer (λ left. HasEnd last1 links1 × (IsAscending last1 links1 → IsTurned last1 links1 left.last left.links.items)) →
      IfSome answer (λ left. IsLeft Satisfies last links left.last left.links.items)
  turned_left answer h = IfSome_then answer h (λ left t.
      let turned = t.1 (record { ascends = forth.are.ascending; within = forth.are.within }) in
      subst (λ (ls : List Link). IsLeft Satisfies last links left.last ls) (sym turned.made)
      (two_passes t.0 left.last turned.back turned.pass))

-- where none is left, no list satisfies
pub nothing_turned : {Stands : ℕ → List ℕ → Type 0} {Satisfies : List ℕ → Type 0} (last : ℕ) (links : List Link) (up : IsAscending last links) (some : 0 < last)
    (last1 : ℕ) (links1 : List Link) → IsPass Stands Satisfies last links last1 links1 → (answer : Option Automaton) → IfNone answer (HasEnd last1 links1 → ⊥) →
    IfNone answer ((readings : List ℕ) → Spells links 0 last readings → Satisfies readings → ⊥)
nothing_turned last links up some last1 links1 forth None h = nothing_left_over last links up some last1 links1 forth h
nothing_turned last links up some last1 links1 forth (Some left) h = tt
