-- How far states are from the root, as far as their edges were followed. Inner: the crate's own
-- functions alone speak of it.
use Rattle.std.specs.Prelude.{◌≡◌, ℕ, ◌+◌, ◌<◌, ◌≤◌, List, ◌⊎◌, Option, None, Some, Contains, length, min, slice_get, slice_index, slice_set}
use Rattle.ux_dawg.specs.Paths.{edge, IsStep, Leads}
use Rattle.ux_dawg.specs.declared.state.Edge.{Edge}
use Rattle.ux_dawg.specs.declared.state.State.{State}
use Rattle.ux_image_lists.specs.declared.shortest.TheConstants.{UNREACHED}

-- the numbers of the targets are at most this one, and others stay
pub record AreLowered (edges : List Edge) (depth : ℕ) (old new : List ℕ) : Type 0 where
  pub long : length new ≡ length old
  pub low : (t : ℕ) → slice_index new t ≤ slice_index old t
  pub targets : (e : Edge) → Contains edges e → slice_index new e.target ≤ depth
  pub from : (t : ℕ) → (slice_index new t ≡ slice_index old t)
      ⊎ ((a : ℕ) × Contains edges (edge a t) × (slice_index new t ≡ depth))

-- the number is how many edges the way to the state has, if one was found
pub record IsFound (states : List State) (root state number : ℕ) : Type 0 where
  pub way : List ℕ
  pub leads : Leads states root way state
  pub is : length way ≡ number

-- the edges of so many states, from the root down, were followed
pub record AreDepths (states : List State) (root done : ℕ) (depths : List ℕ) : Type 0 where
  pub long : length depths ≡ length states
  pub found : (i : ℕ) → i < length states → slice_index depths i < UNREACHED →
      IsFound states root i (slice_index depths i)
  pub start : slice_index depths root ≡ 0
  pub low : (m : ℕ) (way : List ℕ) (a t : ℕ) → length states ≤ m + done →
      Leads states root way m → IsStep states m a t → slice_index depths t ≤ length way + 1

-- the numbers of lists, where that of this list is lowered
abbrev pub lowered_at : List ℕ → Option ℕ → (depth : ℕ) → List ℕ
lowered_at shortest None depth = shortest
lowered_at shortest (Some list) depth =
    slice_set shortest list (min (slice_index shortest list) depth)

-- the lists have the least of the numbers of the first states, among those that have them
pub record AreLeast (states : List State) (depths : List ℕ) (done lists : ℕ) (shortest : List ℕ) :
    Type 0 where
  pub long : length shortest ≡ lists
  pub low : (i list : ℕ) (s : State) → i < done → slice_get states i ≡ Some s →
      s.code ≡ Some list → slice_index shortest list ≤ slice_index depths i
  pub from : (list : ℕ) → list < lists → (slice_index shortest list ≡ UNREACHED)
      ⊎ ((i : ℕ) × (s : State) × (slice_get states i ≡ Some s) × (s.code ≡ Some list)
      × (slice_index shortest list ≡ slice_index depths i))
