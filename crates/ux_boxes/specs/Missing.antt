-- What the test of calls answers. Public: the contract of `refuse_missing` speaks of it.
use Rattle.std.specs.Prelude.{◌≡◌, ℕ, ◌<◌, List, Some, slice_get, Contains}
use Rattle.ux_boxes.specs.declared.error.NetError.{NetError}
use Rattle.ux_boxes.specs.declared.error.NetError.TheVariants.{MissingGraph, BadMask, ContextClose, NegativeRecursion, EmptyLoop, LeftRecursion, NoMemory}
use Rattle.ux_boxes.specs.Boxes.{Drawn}
use Rattle.ux_boxes.specs.Refusing.{IsFirstMissing}

-- every name of the first list is on the second
abbrev pub AreThere : (calls names : List (List ℕ)) → Type 0
AreThere calls names = (name : List ℕ) → Contains calls name → Contains names name

-- the first name of the first list that isn't on the second
pub record IsFirstLacking (calls names : List (List ℕ)) (name : List ℕ) : Type 0 where
  pub k : ℕ
  pub called : slice_get calls k ≡ Some name
  pub missing : Contains names name → ⊥
  pub before : (j : ℕ) (other : List ℕ) → j < k → slice_get calls j ≡ Some other →
      Contains names other

-- a list of graphs is refused for the first name that is missing, or when it is out of memory
abbrev pub RefusesCalls : List Drawn → NetError → Type 0
RefusesCalls graphs (MissingGraph name) = IsFirstMissing graphs name
RefusesCalls graphs (BadMask name node place) = ⊥
RefusesCalls graphs (ContextClose name node) = ⊥
RefusesCalls graphs (NegativeRecursion name) = ⊥
RefusesCalls graphs (EmptyLoop name node) = ⊥
RefusesCalls graphs (LeftRecursion name node) = ⊥
RefusesCalls graphs NoMemory = Unit {0}
