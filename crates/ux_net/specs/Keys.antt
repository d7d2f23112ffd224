-- Lists whose entries have keys. Public, through `Closings`.
use Rattle.std.specs.Prelude.{ℕ, List, [], ◌∷◌, Option, Some, None, nat_eq, cond}

-- what the first of the entries with a key gives
abbrev pub first_with : {A B : Type 0} → (A → ℕ) → (A → B) → List A → (key : ℕ) → Option B
first_with of give [] key = None
first_with of give (entry ∷ entries) key =
    cond (nat_eq (of entry) key) (Some (give entry)) (first_with of give entries key)
