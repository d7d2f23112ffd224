-- Lists in which each value stands once, and where a state may follow another. Inner: the crate's
-- own functions alone speak of it.
use Rattle.std.specs.Prelude.{◌≡◌, ℕ, ◌+◌, ◌-◌, List, [], ◌∷◌, ◌++◌, ◌⊎◌, Option, None, Some, slice_get, length}
use Rattle.ux_dawg.specs.declared.state.Edge.{Edge}
use Rattle.ux_dawg.specs.declared.state.State.{State}

-- no value stands twice
abbrev pub AreOnce : {A : Type 0} → List A → Type 0
AreOnce {A} xs = (i j : ℕ) (x : A) → slice_get xs i ≡ Some x → slice_get xs j ≡ Some x → i ≡ j

-- the item stands at i, and was added at the end if anything was
pub record IsKept {A : Type 0} (old new : List A) (item : A) (i : ℕ) : Type 0 where
  pub stored : slice_get new i ≡ Some item
  pub grown : (new ≡ old) ⊎ ((new ≡ old ++ item ∷ []) × (i ≡ length old))

abbrev pub IsKeptState : List State → List State → State → ℕ → Type 0
IsKeptState old new state i = IsKept {A = State} old new state i

abbrev pub AreOnceStates : List State → Type 0
AreOnceStates states = AreOnce {A = State} states

-- the number that follows the target of an edge, and 0 where there is no edge
abbrev pub number_after : Option Edge → ℕ
number_after None = 0
number_after (Some e) = e.target + 1

-- the number that follows the target of the last of these edges
abbrev pub follower_of : List Edge → ℕ
follower_of edges = number_after (slice_get edges (length edges - 1))
