-- What a loop adds, element by element, and what holds of each element that it has come past.
use Rattle.std.proofs.Common.{arith, ◌≡◌, ℕ, zero, suc, ◌+◌, ◌<◌, ◌≤◌, List, [], ◌∷◌, ◌++◌, ◌⊎◌, ◌↔◌, inl, inr, sym, ◌∙◌, ap, subst, refl, length, take, get_or}
use Rattle.std.specs.Prelude.{Contains}
use Rattle.std.proofs.lemmas.List.{take_more, take_all}
use Rattle.std.proofs.lemmas.List.Elements.{Contains-append_left, Contains-append_right, Contains-append_cases, Contains-push, Contains-push_cases}

pub nothing_in : {A : Type 0} {x : A} → Contains [] x → ⊥
nothing_in h = absurd (omega (arith, h.1))

pub first_or_later : {A : Type 0} (x : A) (xs : List A) (y : A) → Contains (x ∷ xs) y →
    (y ≡ x) ⊎ Contains xs y
first_or_later x xs y h = elim (Contains-append_cases (x ∷ []) xs y h) [
  | inl a ↦ elim (Contains-push_cases [] x y a) [
    | inl b ↦ absurd (nothing_in b)
    | inr e ↦ inl (sym e)
  ]
  | inr b ↦ inr b
]

pub contains_first : {A : Type 0} (x : A) (xs : List A) → Contains (x ∷ xs) x
contains_first x xs = Contains-append_left (x ∷ []) xs x (Contains-push [] x)

pub contains_later : {A : Type 0} (x : A) (xs : List A) (y : A) → Contains xs y → Contains (x ∷ xs) y
contains_later x xs y h = Contains-append_right (x ∷ []) xs y h

-- an element of a list, read with any other in place of a missing one
pub item_at : {X : Type 0} (xs : List X) (i : ℕ) (d : X) → i < length xs →
    get_or xs i d ≡ get_or xs i (get_or xs i d)
item_at [] i d lt = absurd (omega (arith, lt))
item_at (x ∷ xs) zero d lt = refl
item_at (x ∷ xs) (suc i) d lt = item_at xs i d (omega (arith, lt))

-- one element more
pub pushed : {A : Type 0} (old new : List A) (x : A) → new ≡ old ++ x ∷ [] → (y : A) →
    Contains new y ↔ (Contains old y ⊎ (y ≡ x))
pushed {A} old new x is y = (
  λ h. elim (Contains-push_cases old x y (subst (λ (l : List A). Contains l y) is h)) [
    | inl o ↦ inl o
    | inr e ↦ inr (sym e)
  ],
  λ h. subst (λ (l : List A). Contains l y) (sym is) (elim h [
    | inl o ↦ Contains-append_left old (x ∷ []) y o
    | inr e ↦ subst (Contains (old ++ x ∷ [])) (sym e) (Contains-push old x)
  ]),
)

module _ {S : Type 0} (all : List S) (i : ℕ) where
  -- the elements so far, and one more
  pub seen_next : (s : S) → i < length all → s ≡ get_or all i s → (x : S) →
      Contains (take (i + 1) all) x ↔ (Contains (take i all) x ⊎ (x ≡ s))
  seen_next s lt is = pushed (take i all) (take (i + 1) all) s
      (take_more all i s lt ∙ ap (λ (y : S). take i all ++ y ∷ []) (sym is))

  module _ (IsSo : S → Type 0) where
    -- so of one element more
    pub each_next : (s : S) → i < length all → s ≡ get_or all i s →
        ((x : S) → Contains (take i all) x → IsSo x) → IsSo s →
        (x : S) → Contains (take (i + 1) all) x → IsSo x
    each_next s lt is before this x inside = elim ((seen_next s lt is x).0 inside) [
      | inl earlier ↦ before x earlier
      | inr e ↦ subst IsSo (sym e) this
    ]

    -- so of all
    pub each_all : length all ≤ i → ((x : S) → Contains (take i all) x → IsSo x) →
        (x : S) → Contains all x → IsSo x
    each_all past before x inside =
        before x (subst (λ (l : List S). Contains l x) (sym (take_all i all past)) inside)

module _ {S T : Type 0} (From : S → T → Type 0) where
  -- what comes from one of these elements was added
  abbrev pub AddsSome : (old new : T → Type 0) → List S → Type 0
  AddsSome old new xs =
      (t : T) → new t ↔ (old t ⊎ ((x : S) × Contains xs x × From x t))

  pub adds_first : (old : T → Type 0) (xs : List S) → AddsSome old old (take 0 xs)
  adds_first old xs t = (
    λ h. inl h,
    λ h. elim h [ inl o ↦ o | inr n ↦ absurd (let some = n.1.1 in omega (arith, some)) ],
  )

  pub adds_next : (old now new : T → Type 0) (xs : List S) (i : ℕ) (s : S) → i < length xs →
      s ≡ get_or xs i s → AddsSome old now (take i xs) →
      ((t : T) → new t ↔ (now t ⊎ From s t)) → AddsSome old new (take (i + 1) xs)
  adds_next old now new xs i s lt is before next t = (
    λ h. elim ((next t).0 h) [
      | inl n ↦ elim ((before t).0 n) [
        | inl o ↦ inl o
        | inr f ↦ inr (f.0, (seen_next xs i s lt is f.0).1 (inl f.1), f.2)
      ]
      | inr f ↦ inr (s, (seen_next xs i s lt is s).1 (inr refl), f)
    ],
    λ h. (next t).1 (elim h [
      | inl o ↦ inl ((before t).1 (inl o))
      | inr f ↦ elim ((seen_next xs i s lt is f.0).0 f.1) [
        | inl earlier ↦ inl ((before t).1 (inr (f.0, earlier, f.2)))
        | inr e ↦ inr (subst (λ (x : S). From x t) e f.2)
      ]
    ]),
  )

  pub adds_all : (old now : T → Type 0) (xs : List S) (i : ℕ) → length xs ≤ i →
      AddsSome old now (take i xs) → AddsSome old now xs
  adds_all old now xs i past adds =
      subst (λ (l : List S). AddsSome old now l) (take_all i xs past) adds
