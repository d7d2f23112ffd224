-- The first of several faults, and the first state that equals an earlier one.
use Rattle.std.proofs.Common.{arith, ◌≡◌, ℕ, ◌<◌, List, ◌⊎◌, inl, inr, sym, ◌∙◌, subst, length, min, get_or, Result, Ok, Err}
use Rattle.std.specs.Prelude.{IfOk, Option, None, Some}
use Rattle.std.proofs.lemmas.Bool.{cases_lt}
use Rattle.std.proofs.lemmas.Option.{slice_get-get_or, slice_get_within}
use Rattle.ux_dawg.specs.declared.state.State.{State}
use Rattle.ux_dawg.specs.Building.{bare}
use Rattle.ux_dawg.specs.Repeated.{IsFirstRepeated, IsRepeated}
use Rattle.ux_image_reader.specs.Fronts.{EqualsEarlier, IsFinalRoot, IsMisplaced, IsNumberedElse}
use Rattle.ux_image_reader.specs.Reading.{first_of, IsFirst}

-- the first number at which one of two facts holds
module _ (P Q R : ℕ → Type 0) (left : (n : ℕ) → P n → R n) (right : (n : ℕ) → Q n → R n)
    (cases : (n : ℕ) → R n → P n ⊎ Q n) where
  neither : (n : ℕ) → (P n → ⊥) → (Q n → ⊥) → R n → ⊥
  neither n p q r = elim (cases n r) [ inl h ↦ p h | inr h ↦ q h ]

  pub IsFirst-first_of : (one other : Option ℕ) → IsFirst P one → IsFirst Q other →
      IsFirst R (first_of one other)
  IsFirst-first_of None None p q = λ n. neither n (p n) (q n)
  IsFirst-first_of None (Some b) p q = (right b q.0, λ n less. neither n (p n) (q.1 n less))
  IsFirst-first_of (Some a) None p q = (left a p.0, λ n less. neither n (p.1 n less) (q n))
  IsFirst-first_of (Some a) (Some b) p q = elim (cases_lt a b) [
    | inl less ↦ at a (let e : a ≡ min a b = omega (arith, less) in e) (left a p.0)
    | inr more ↦ at b (let e : b ≡ min a b = omega (arith, more) in e) (right b q.0)
  ]
    where
      at : (c : ℕ) → c ≡ min a b → R c → R (min a b) × ((n : ℕ) → n < min a b → R n → ⊥)
      at c is r = (
        subst R is r,
        λ n less. neither n (p.1 n (omega (arith, less))) (q.1 n (omega (arith, less))),
      )

-- so the first state with a fault is the first of the three
pub first_of_three : (states : List State) (root equal numbered : Option ℕ) →
    IsFirst (IsFinalRoot states) root → IsFirst (EqualsEarlier states) equal →
    IsFirst (IsNumberedElse states) numbered →
    IsFirst (IsMisplaced states) (first_of root (first_of equal numbered))
first_of_three states root equal numbered r e n =
    IsFirst-first_of (IsFinalRoot states)
    (λ m. EqualsEarlier states m ⊎ IsNumberedElse states m) (IsMisplaced states)
    (λ m h. inl h) (λ m h. inr h) (λ m h. h) root (first_of equal numbered) r
    (IsFirst-first_of (EqualsEarlier states) (IsNumberedElse states)
    (λ m. EqualsEarlier states m ⊎ IsNumberedElse states m)
    (λ m h. inl h) (λ m h. inr h) (λ m h. h) equal numbered e n)

-- a state that equals an earlier one is repeated
equals_repeated : (states : List State) (number : ℕ) → EqualsEarlier states number →
    IsRepeated states number
equals_repeated states number other = record {
  within = slice_get_within states number other.state other.stands;
  earlier = other.earlier;
  before = other.before;
  same = other.same ∙ sym other.stands;
}

-- and the other way round
repeated_equals : (states : List State) (number : ℕ) → IsRepeated states number →
    EqualsEarlier states number
repeated_equals states number again =
    let stands = slice_get-get_or states number bare again.within in
    record {
      state = get_or states number bare;
      stands = stands;
      earlier = again.earlier;
      before = again.before;
      same = again.same ∙ stands;
    }

-- so the first of the ones is the first of the others
pub first_equal_is : {E : Type 0} (states : List State) (result : Result (Option ℕ) E) →
    IfOk result (IsFirstRepeated states) → IfOk result (IsFirst (EqualsEarlier states))
first_equal_is states (Ok None) none = λ number other.
    none number (equals_repeated states number other)
first_equal_is states (Ok (Some first)) found = (
  repeated_equals states first found.0,
  λ number less other. found.1 number less (equals_repeated states number other),
)
first_equal_is states (Err error) found = tt

-- a state with a fault is one of the states
pub misplaced_within : (states : List State) (number : ℕ) → IsMisplaced states number →
    number < length states
misplaced_within states number (inl root) = let last = root.root in omega (arith, last)
misplaced_within states number (inr (inl other)) =
    slice_get_within states number other.state other.stands
misplaced_within states number (inr (inr numbered)) = numbered.within
