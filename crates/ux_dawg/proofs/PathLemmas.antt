-- Paths stay where states are added; states with the same paths are one.
use Rattle.std.proofs.Common.{arith, ◌≡◌, ℕ, zero, suc, ◌<◌, ◌∙◌, List, [], ◌∷◌, ◌++◌, ◌⊎◌, inl, inr, refl, sym, ap, subst, length}
use Rattle.std.specs.Prelude.{Some, slice_get, Contains}
use Rattle.std.proofs.lemmas.Option.{same_Some, none-some, slice_get-get_or}
use Rattle.std.proofs.lemmas.List.Elements.{Contains-append_left, Contains-append_right, Contains-push_cases, Contains-push, Contains-append_cases}
use Rattle.ux_dawg.specs.declared.state.State.{State}
use Rattle.ux_dawg.specs.Register.{IsKept}
use Rattle.ux_dawg.specs.Paths.{edge, Right, IsFit}

module _ {A : Type 0} where
  pub get_extended : (xs ys : List A) (i : ℕ) (x : A) → slice_get xs i ≡ Some x →
      slice_get (xs ++ ys) i ≡ Some x
  get_extended [] ys i x at = absurd (none-some x at)
  get_extended (y ∷ xs) ys zero x at = at
  get_extended (y ∷ xs) ys (suc i) x at = get_extended xs ys i x at

  -- an element of a list with one more stands in the list, or is the one more
  pub get_pushed : (xs : List A) (y : A) (i : ℕ) (x : A) → slice_get (xs ++ y ∷ []) i ≡ Some x →
      (slice_get xs i ≡ Some x) ⊎ ((i ≡ length xs) × (x ≡ y))
  get_pushed [] y zero x at = inr (refl, sym (same_Some y x at))
  get_pushed [] y (suc i) x at = absurd (none-some x at)
  get_pushed (z ∷ xs) y zero x at = inl at
  get_pushed (z ∷ xs) y (suc i) x at = elim (get_pushed xs y i x at) [
    | inl old ↦ inl old
    | inr new ↦ inr (ap suc new.0, new.1)
  ]

  pub got : (xs : List A) (i : ℕ) → i < length xs → (x : A) × (slice_get xs i ≡ Some x)
  got [] i less = absurd (omega (arith, less))
  got (x ∷ xs) zero less = (x, refl)
  got (x ∷ xs) (suc i) less = got xs i (omega (arith, less))

  pub is_some_of : (xs : List A) (x : A) → Contains xs x → (i : ℕ) × (slice_get xs i ≡ Some x)
  is_some_of xs x has = (has.0, slice_get-get_or xs has.0 x has.1 ∙ ap Some has.2)

  pub contains_at : (xs : List A) (i : ℕ) (x : A) → slice_get xs i ≡ Some x → Contains xs x
  contains_at [] i x at = absurd (none-some x at)
  contains_at (y ∷ xs) zero x at = subst (Contains (y ∷ xs)) (same_Some y x at) (Contains-append_left (y ∷ []) xs y (Contains-push [] y))
  contains_at (y ∷ xs) (suc i) x at = Contains-append_right (y ∷ []) xs x (contains_at xs i x at)

  pub of_cons : (y : A) (xs : List A) (x : A) → Contains (y ∷ xs) x → (y ≡ x) ⊎ Contains xs x
  of_cons y xs x has = elim (Contains-append_cases (y ∷ []) xs x has) [
    | inl head ↦ elim (Contains-push_cases [] y x head) [
      | inl none ↦ absurd (none-some x (is_some_of [] x none).1)
      | inr is ↦ inl is
    ]
    | inr rest ↦ inr rest
  ]

  pub in_front : (y : A) (xs : List A) → Contains (y ∷ xs) y
  in_front y xs = Contains-append_left (y ∷ []) xs y (Contains-push [] y)

  pub behind : (y : A) (xs : List A) (x : A) → Contains xs x → Contains (y ∷ xs) x
  behind y xs x has = Contains-append_right (y ∷ []) xs x has

  -- what was stored before stands at its place
  pub kept_at : (old new : List A) (item : A) (n : ℕ) → IsKept old new item n → (i : ℕ) (x : A) →
      slice_get old i ≡ Some x → slice_get new i ≡ Some x
  kept_at old new item n kept i x at = elim kept.grown [
    | inl same ↦ subst (λ (l : List A). slice_get l i ≡ Some x) (sym same) at
    | inr more ↦ subst (λ (l : List A). slice_get l i ≡ Some x) (sym more.0) (get_extended old (item ∷ []) i x at)
  ]

  -- what stands there was there, or is the item at the end
  pub kept_from : (old new : List A) (item : A) (n : ℕ) → IsKept old new item n → (i : ℕ) (x : A) →
      slice_get new i ≡ Some x → (slice_get old i ≡ Some x) ⊎ ((i ≡ length old) × (x ≡ item) × (n ≡ i))
  kept_from old new item n kept i x at = elim kept.grown [
    | inl same ↦ inl (subst (λ (l : List A). slice_get l i ≡ Some x) same at)
    | inr more ↦ elim (get_pushed old item i x (subst (λ (l : List A). slice_get l i ≡ Some x) more.0 at)) [
      | inl there ↦ inl there
      | inr new ↦ inr (new.0, new.1, more.1 ∙ sym new.0)
    ]
  ]

-- the same states from a state whose steps lead to states that stand in both lists
module _ (old new : List State)
    (stay : (i : ℕ) (s : State) → slice_get old i ≡ Some s → slice_get new i ≡ Some s)
    (fit : (i : ℕ) (s : State) → slice_get old i ≡ Some s → IsFit i s) where
  pub right_stays : (s : State) (w : List ℕ) (c : ℕ) → Right old s w c → Right new s w c
  right_stays s [] c h = h
  right_stays s (a ∷ w) c h = (h.0, h.1, h.2, stay h.0 h.1 h.3, right_stays h.1 w c h.4)

  pub right_back : (s : State) → IsFit (length old) s → (w : List ℕ) (c : ℕ) → Right new s w c → Right old s w c
  right_back s fits [] c h = h
  right_back s fits (a ∷ w) c h =
      let less : h.0 < length old = fits.within (edge a h.0) h.2 in
      let there = got old h.0 less in
      let same : h.1 ≡ there.0 = same_Some h.1 there.0 (sym h.3 ∙ stay h.0 there.0 there.1) in
      let at : slice_get old h.0 ≡ Some h.1 = there.1 ∙ ap Some (sym same) in
      let low = fit h.0 h.1 at in
      (h.0, h.1, h.2, at, right_back h.1 (record { ascending = low.ascending; within = λ e has. let l = low.within e has in omega (arith, l, less) }) w c h.4)
