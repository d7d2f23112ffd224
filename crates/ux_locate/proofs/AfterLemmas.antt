-- The positions after a start, of some positions.
use Rattle.std.proofs.Common.{◌≡◌, ◌↔◌, ℕ, ◌<◌, List, [], ◌∷◌, Bool, true, false, cond, sym, ◌∙◌, ap, subst, inl, inr, arith, ltb}
use Rattle.std.specs.Prelude.{Contains, filter}
use Rattle.std.specs.List.Sorted.{IsStrictlyIncreasing}
use Rattle.std.proofs.lemmas.Bool.{cases_Bool, ltb-true, lt-ltb}
use Rattle.ux_base.proofs.OrderedLists.{Contains-cons_cases, Contains-filter, Contains-nil, Contains-tail}
use Rattle.ux_outputs.specs.declared.event.Event.{Event}
use Rattle.ux_walk.specs.Ends.{AreEnds}
use Rattle.ux_walk.specs.Settings.{Derives, Setting}

module _ {X : Type 0} (p : X → Bool) where
  filter_cons : (x : X) (xs : List X) (b : Bool) → p x ≡ b →
      filter p (x ∷ xs) ≡ cond b (x ∷ filter p xs) (filter p xs)
  filter_cons x xs b is = ap (λ test. cond test (x ∷ filter p xs) (filter p xs)) is

  -- what passes was there, and passes
  filter_within : (xs : List X) (y : X) → Contains (filter p xs) y → Contains xs y × (p y ≡ true)
  filter_within [] y c = absurd (Contains-nil y c)
  filter_within (x ∷ xs) y c = elim (cases_Bool (p x)) [
    | inl is ↦ elim (Contains-cons_cases x y (filter p xs)
        (subst (λ (l : List X). Contains l y) (filter_cons x xs true is) c)) [
          | inl here ↦ ((0, omega arith, here), ap p (sym here) ∙ is)
          | inr later ↦
              let rest = filter_within xs y later in (Contains-tail x y xs rest.0, rest.1)
        ]
    | inr is ↦
        let rest = filter_within xs y
        (subst (λ (l : List X). Contains l y) (filter_cons x xs false is) c) in
        (Contains-tail x y xs rest.0, rest.1)
  ]

-- those that pass are the later ones
pub after_exactly : (start : ℕ) (xs ys : List ℕ) → ys ≡ filter (λ n. ltb start n) xs → (end : ℕ) →
    Contains ys end ↔ (Contains xs end × (start < end))
after_exactly start xs ys is end =
    let passes = λ (n : ℕ). ltb start n in (
      λ c. (
          let both = filter_within passes xs end (subst (λ (l : List ℕ). Contains l end) is c) in
          (both.0, ltb-true start end both.1)),
      λ (c, lt). subst (λ (l : List ℕ). Contains l end) (sym is)
          (Contains-filter passes xs end c (lt-ltb start end lt)),
    )

module _ (setting : Setting) (start : ℕ) (all : List ℕ)
    (exactly : (end : ℕ) → Contains all end
    ↔ ((events : List Event) × Derives setting start end events)) where
  -- where nothing is derived from the start, it has no ends
  pub no_ends : all ≡ [] → AreEnds setting start []
  no_ends is = record {
    exactly = λ e. (
      λ c. absurd (Contains-nil e c),
      λ (lt, events, derives). absurd (Contains-nil e
          (subst (λ (l : List ℕ). Contains l e) is ((exactly e).1 (events, derives)))),
    );
    ascending = λ k lt. absurd (omega (arith, lt));
  }

  -- the later ones are the ends
  pub later_ends : (later : List ℕ) → ((e : ℕ) → Contains later e ↔ (Contains all e × (start < e))) →
      IsStrictlyIncreasing later → AreEnds setting start later
  later_ends later are ascending = record {
    exactly = λ e. (
      λ c. (
          let both = (are e).0 c in
          let derived = (exactly e).0 both.0 in
          (both.1, derived.0, derived.1)),
      λ (lt, events, derives). (are e).1 ((exactly e).1 (events, derives), lt),
    );
    ascending = ascending;
  }
