-- Values by number, each once. Public: public contracts speak of them.
use Rattle.std.specs.Prelude.{◌≡◌, ℕ, ◌≤◌, Bool, true, List, [], ◌∷◌, Some, length, slice_get}
use Rattle.std.specs.List.{IsDistinct}

-- what a contract sees: the values in the order of their numbers
pub record Values (T : Type 0) : Type 0 where
  pub keys : List T

-- all of them: the few, until there are many
abbrev pub all_of : {T : Type 0} → (few many : List T) → List T
all_of few [] = few
all_of few (x ∷ xs) = x ∷ xs

-- no two of the few are equal, and they are no more than a list is to be looked through for
pub record AreFew {T : Type 0} (eq : T → T → Bool) (few : List T) : Type 0 where
  pub distinct : IsDistinct eq few
  pub count : length few ≤ 12

-- a value that is equal to this one has the number
pub record HasNumber {T : Type 0} (eq : T → T → Bool) (keys : List T) (value : T) (number : ℕ)
    : Type 0 where
  pub key : T
  pub at : slice_get keys number ≡ Some key
  pub equal : eq value key ≡ true
