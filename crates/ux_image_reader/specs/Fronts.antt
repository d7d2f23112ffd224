-- The front of an image: which bytes have which one, and why bytes have none. The manual, on
-- compressing dictionaries. Public: the crate's public contracts speak of it.
use Rattle.std.specs.Prelude.{◌≡◌, ◌≢◌, ℕ, ◌+◌, ◌<◌, List, [], ◌∷◌, ◌++◌, ◌⊎◌, Some, length, slice_get, take}
use Rattle.ux_dawg.specs.declared.state.State.{State}
use Rattle.ux_image_reader.specs.declared.error.ImageError.{ImageError}
use Rattle.ux_image_reader.specs.declared.error.ImageError.TheVariants.{BadMagic, Short, BadState, BadCode, Trailing, TooMany, NoMemory}
use Rattle.ux_image_reader.specs.declared.front.Front.{Front}
use Rattle.ux_image_reader.specs.declared.front.Version.{Version}
use Rattle.ux_image_reader.specs.Layout.{HasMagic, BeginsMagic, numbers_behind, written_all, place_behind}
use Rattle.ux_image_reader.specs.Tests.{limits_behind, used_by, Pass, IsWhole, AllPass}
use Rattle.ux_image_reader.specs.Visit.{visit_of}

-- the state of this number is the root, and final
pub record IsFinalRoot (states : List State) (number : ℕ) : Type 0 where
  pub root : number + 1 ≡ length states
  pub state : State
  pub stands : slice_get states number ≡ Some state
  pub list : ℕ
  pub final : state.code ≡ Some list

-- a state before the one of this number has the same list and the same edges
pub record EqualsEarlier (states : List State) (number : ℕ) : Type 0 where
  pub state : State
  pub stands : slice_get states number ≡ Some state
  pub earlier : ℕ
  pub before : earlier < number
  pub same : slice_get states earlier ≡ Some state

-- the visit leaves another state in the place of this number
pub record IsNumberedElse (states : List State) (number : ℕ) : Type 0 where
  pub within : number < length states
  pub else_left : slice_get (visit_of states) number ≢ Some number

-- the state of this number has a fault that shows only among all states
abbrev pub IsMisplaced : List State → ℕ → Type 0
IsMisplaced states number =
    IsFinalRoot states number ⊎ EqualsEarlier states number ⊎ IsNumberedElse states number

-- the states of an image with so many lists
pub record AreAccepted (lists : ℕ) (states : List State) : Type 0 where
  pub some : 0 < length states
  pub passed : AllPass (length states) lists states
  pub root : (number : ℕ) → IsFinalRoot states number → ⊥
  pub once : (number : ℕ) → EqualsEarlier states number → ⊥
  pub numbered : (number : ℕ) → IsNumberedElse states number → ⊥
  pub used : used_by states ≡ lists

-- the file begins with its magic, the two counts and these states, which pass their own tests, and
-- then has these whole numbers
pub record Begins (bytes : List ℕ) (version : Version) (count lists : ℕ) (states : List State)
    (rest : List ℕ) : Type 0 where
  pub magic : HasMagic version bytes
  pub numbers : numbers_behind bytes ≡ count ∷ (lists ∷ (written_all states ++ rest))
  pub passed : AllPass count lists states

-- the file begins with this front
pub record IsFrontOf (bytes : List ℕ) (front : Front) : Type 0 where
  pub rest : List ℕ
  pub begins : Begins bytes front.version (length front.states) front.lists front.states rest
  pub accepted : AreAccepted front.lists front.states
  pub place : front.end ≡ place_behind front.states

-- the file ends inside its front, and nothing that is there is at fault
pub data EndsInFront (bytes : List ℕ) : Type 0 where
  in_magic : BeginsMagic bytes → length bytes < 8 → EndsInFront bytes
  before_count : (version : Version) → HasMagic version bytes → numbers_behind bytes ≡ [] →
      EndsInFront bytes
  before_lists : (version : Version) (count : ℕ) → HasMagic version bytes →
      numbers_behind bytes ≡ count ∷ [] → 0 < count → EndsInFront bytes
  in_state : (version : Version) (count lists : ℕ) (before : List State) (rest : List ℕ) →
      Begins bytes version count lists before rest → length before < count →
      Pass (limits_behind count lists before) rest → (IsWhole rest → ⊥) → EndsInFront bytes

-- the state that begins at this place is at fault; 8 and 12 are the places of the counts of states
-- and of lists
pub data HasBadState (bytes : List ℕ) (place : ℕ) : Type 0 where
  no_state : (version : Version) (numbers : List ℕ) → HasMagic version bytes →
      numbers_behind bytes ≡ 0 ∷ numbers → place ≡ 8 → HasBadState bytes place
  by_itself : (version : Version) (count lists : ℕ) (before : List State) (rest : List ℕ) →
      Begins bytes version count lists before rest → length before < count →
      (Pass (limits_behind count lists before) rest → ⊥) → place ≡ place_behind before →
      HasBadState bytes place
  misplaced : (version : Version) (lists : ℕ) (states : List State) (rest : List ℕ)
      (number : ℕ) → Begins bytes version (length states) lists states rest →
      0 < length states → IsMisplaced states number →
      ((earlier : ℕ) → earlier < number → IsMisplaced states earlier → ⊥) →
      place ≡ place_behind (take number states) → HasBadState bytes place
  unused_list : (version : Version) (lists : ℕ) (states : List State) (rest : List ℕ) →
      Begins bytes version (length states) lists states rest → 0 < length states →
      ((number : ℕ) → IsMisplaced states number → ⊥) → used_by states < lists → place ≡ 12 →
      HasBadState bytes place

-- why bytes have no front, by its first fault
abbrev pub RefusesFront : List ℕ → ImageError → Type 0
RefusesFront bytes BadMagic = BeginsMagic bytes → ⊥
RefusesFront bytes Short = EndsInFront bytes
RefusesFront bytes (BadState offset) = HasBadState bytes offset
RefusesFront bytes (BadCode number) = ⊥
RefusesFront bytes Trailing = ⊥
RefusesFront bytes TooMany = ⊥
RefusesFront bytes NoMemory = ⊥
