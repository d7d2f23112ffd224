-- The shortest form with each list of codes. Public: the crate's public contracts speak of it.
use Rattle.std.specs.Prelude.{◌≡◌, ℕ, ◌<◌, ◌≤◌, List, length, slice_index}
use Rattle.ux_dawg.specs.Paths.{Accepts}
use Rattle.ux_dawg.specs.declared.state.State.{State}

-- the shortest form with the list of this number has so many characters
pub record IsShortest (states : List State) (list long : ℕ) : Type 0 where
  pub form : List ℕ
  pub accepted : Accepts states form list
  pub is : length form ≡ long
  pub least : (other : List ℕ) → Accepts states other list → long ≤ length other

-- so many characters the shortest form with each of so many lists has
pub record AreShortest (states : List State) (lists : ℕ) (shortest : List ℕ) : Type 0 where
  pub many : length shortest ≡ lists
  pub each : (list : ℕ) → list < lists → IsShortest states list (slice_index shortest list)
