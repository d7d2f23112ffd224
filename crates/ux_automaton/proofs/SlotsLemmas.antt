-- What values numbers have as places are added and one is written.
use Rattle.std.proofs.Common.{◌≡◌, ℕ, zero, suc, List, [], ◌∷◌, ◌++◌, ◌⊎◌, inl, inr, refl, sym, ap, set, subst}
use Rattle.std.specs.Prelude.{Option, Some, None}
use Rattle.std.proofs.lemmas.Option.{none-some, same_Some}
use Rattle.ux_automaton.specs.Caches.{HasValue}

module _ {V : Type 0} where
  -- no place, no value
  pub nothing_given : (slots : List (Option V)) → slots ≡ [] → (n : ℕ) (v : V) →
      HasValue slots n v → ⊥
  nothing_given slots is n v h = go n (subst (λ (l : List (Option V)). HasValue l n v) is h)
    where
      go : (m : ℕ) → HasValue [] m v → ⊥
      go zero at = none-some (Some v) at
      go (suc m) at = none-some (Some v) at

  -- a place that is added has no value
  pub added_none : (slots : List (Option V)) (n : ℕ) (v : V) →
      HasValue (slots ++ None ∷ []) n v → HasValue slots n v
  added_none [] zero v h = absurd (none-some v (same_Some None (Some v) h))
  added_none [] (suc n) v h = h
  added_none (s ∷ slots) zero v h = h
  added_none (s ∷ slots) (suc n) v h = added_none slots n v h

  -- a value is what was written, or was there
  pub given : (slots : List (Option V)) (number : ℕ) (value : V) (n : ℕ) (v : V) →
      HasValue (set slots number (Some value)) n v →
      ((n ≡ number) × (v ≡ value)) ⊎ HasValue slots n v
  given [] number value n v h = inr h
  given (s ∷ slots) zero value zero v h =
      inl (refl, sym (same_Some value v (same_Some (Some value) (Some v) h)))
  given (s ∷ slots) zero value (suc n) v h = inr h
  given (s ∷ slots) (suc m) value zero v h = inr h
  given (s ∷ slots) (suc m) value (suc n) v h = elim (given slots m value n v h) [
    | inl here ↦ inl (ap suc here.0, here.1)
    | inr there ↦ inr there
  ]
