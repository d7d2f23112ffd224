-- A loop that adds what is so for one number after another.
use Rattle.std.proofs.Common.{arith, ◌≡◌, ℕ, ◌+◌, ◌<◌, ◌≤◌, ◌⊎◌, List, [], ◌∷◌, ◌++◌, length, refl, subst, sym, ◌∙◌, inl, inr, ◌↔◌, get_or}
use Rattle.std.specs.Prelude.{Contains, Some}
use Rattle.std.proofs.lemmas.Option.{slice_get_read, slice_get_within, get_or_from_slice_get}
use Rattle.std.proofs.lemmas.List.Elements.{Contains-append_left, Contains-push, Contains-push_cases}
use Rattle.ux_base.proofs.Lists.{same_or, nothing_in}
use Rattle.ux_admission.specs.Gains.{Gains, SoBelow, SoAt, SoOfOne}

-- nothing is added where nothing is so
pub gains_none : {A : Type 0} (before : List A) (IsSo : A → Type 0) → ((x : A) → IsSo x → ⊥) →
    Gains before before IsSo
gains_none before IsSo never = λ x. (
  λ h. inl h,
  λ h. elim h [
    | inl a ↦ a
    | inr b ↦ absurd (never x b)
  ],
)

-- one is added that alone is so
pub gains_one : {A : Type 0} (before after : List A) (y : A) (IsSo : A → Type 0) →
    after ≡ before ++ y ∷ [] → IsSo y → ((x : A) → IsSo x → y ≡ x) → Gains before after IsSo
gains_one {A} before after y IsSo is so alone =
    subst (λ (xs : List A). Gains before xs IsSo) (sym is) (λ x. (
      λ h. elim (Contains-push_cases before y x h) [
        | inl a ↦ inl a
        | inr e ↦ inr (subst IsSo e so)
      ],
      λ h. elim h [
        | inl a ↦ Contains-append_left before (y ∷ []) x a
        | inr s ↦ subst (λ (z : A). Contains (before ++ y ∷ []) z) (alone x s)
            (Contains-push before y)
      ],
    ))

-- one kind and then another
pub gains_then : {A : Type 0} (before now after : List A) (First Then : A → Type 0) →
    Gains before now First → Gains now after Then →
    Gains before after (λ x. First x ⊎ Then x)
gains_then before now after First Then first then = λ x. (
  λ h. elim ((then x).0 h) [
    | inl a ↦ elim ((first x).0 a) [
      | inl b ↦ inl b
      | inr s ↦ inr (inl s)
    ]
    | inr s ↦ inr (inr s)
  ],
  λ h. elim h [
    | inl b ↦ (then x).1 (inl ((first x).1 (inl b)))
    | inr e ↦ elim e [
      | inl s ↦ (then x).1 (inl ((first x).1 (inr s)))
      | inr s ↦ (then x).1 (inr s)
    ]
  ],
)

-- what is so for the next number
pub gains_next : {A : Type 0} (before now after : List A) (count : ℕ) (IsSo : ℕ → A → Type 0) →
    Gains before now (SoBelow count IsSo) → Gains now after (IsSo count) →
    Gains before after (SoBelow (count + 1) IsSo)
gains_next {A} before now after count IsSo old new = λ x. (
  λ h. elim ((new x).0 h) [
    | inl a ↦ elim ((old x).0 a) [
      | inl b ↦ inl b
      | inr s ↦ let l = s.1 in inr (s.0, omega arith, s.2)
    ]
    | inr s ↦ inr (count, omega arith, s)
  ],
  λ h. elim h [
    | inl b ↦ (new x).1 (inl ((old x).1 (inl b)))
    | inr s ↦ elim (same_or s.0 count) [
      | inl e ↦ (new x).1 (inr (subst (λ k. IsSo k x) e s.2))
      | inr n ↦ let l = s.1 in (new x).1 (inl ((old x).1 (inr (s.0, omega arith, s.2))))
    ]
  ],
)

-- the same thing said otherwise
pub gains_as : {A : Type 0} (before after : List A) (Old New : A → Type 0) →
    ((x : A) → Old x ↔ New x) → Gains before after Old → Gains before after New
gains_as before after Old New same gains = λ x. (
  λ h. elim ((gains x).0 h) [
    | inl a ↦ inl a
    | inr s ↦ inr ((same x).0 s)
  ],
  λ h. elim h [
    | inl a ↦ (gains x).1 (inl a)
    | inr s ↦ (gains x).1 (inr ((same x).1 s))
  ],
)

-- at the end of a loop
pub gains_done : {A : Type 0} (before after : List A) (count all : ℕ) (IsSo : ℕ → A → Type 0) →
    count ≤ all → all ≤ count → Gains before after (SoBelow count IsSo) →
    Gains before after (SoBelow all IsSo)
gains_done before after count all IsSo most least gains =
    let e : count ≡ all = omega arith in
    subst (λ n. Gains before after (SoBelow n IsSo)) e gains

-- a list that began with nothing has what is so
pub gains_all : {A : Type 0} (after : List A) (IsSo : A → Type 0) → Gains [] after IsSo →
    (x : A) → Contains after x ↔ IsSo x
gains_all after IsSo gains x = (
  λ h. elim ((gains x).0 h) [
    | inl a ↦ absurd (nothing_in a)
    | inr s ↦ s
  ],
  λ s. (gains x).1 (inr s),
)

-- what is so for the next element
pub gains_item : {A B : Type 0} (before now after : List A) (xs : List B) (k : ℕ) (y : B)
    (IsSo : B → A → Type 0) → k < length xs → y ≡ get_or xs k y →
    Gains before now (SoBelow k (SoAt xs IsSo)) → Gains now after (IsSo y) →
    Gains before after (SoBelow (k + 1) (SoAt xs IsSo))
gains_item before now after xs k y IsSo h at old new =
    let there = slice_get_read xs (length xs) k y refl h at in
    gains_next before now after k (SoAt xs IsSo) old
    (gains_as now after (IsSo y) (SoAt xs IsSo k) (λ x. (
      λ s. (y, there, s),
      λ s. let same : Some s.0 ≡ Some y = sym s.1 ∙ there in
          let e : s.0 ≡ y = cc in
          subst (λ z. IsSo z x) e s.2,
    )) new)

-- at the end of a loop over the elements
pub gains_items : {A B : Type 0} (before after : List A) (xs : List B) (k : ℕ)
    (IsSo : B → A → Type 0) → length xs ≤ k → Gains before after (SoBelow k (SoAt xs IsSo)) →
    Gains before after (SoOfOne xs IsSo)
gains_items before after xs k IsSo least gains =
    gains_as before after (SoBelow k (SoAt xs IsSo)) (SoOfOne xs IsSo) (λ x. (
      λ s. (
        s.2.0,
        (
          s.0,
          slice_get_within xs s.0 s.2.0 s.2.1,
          get_or_from_slice_get xs s.0 s.2.0 s.2.0 s.2.1,
        ),
        s.2.2,
      ),
      λ s. let l = s.1.1 in (
        s.1.0,
        omega arith,
        (
          s.0,
          slice_get_read xs (length xs) s.1.0 s.0 refl s.1.1 (sym s.1.2),
          s.2,
        ),
      ),
    )) gains
