-- What the parts of the reader promise one another. Inner: the crate's own functions alone speak of
-- it.
use Rattle.std.specs.Prelude.{◌≡◌, ℕ, ◌+◌, ◌*◌, ◌<◌, List, [], ◌∷◌, ◌++◌, ◌⊎◌, Option, None, Some, drop, length, map, min, slice_index, take}
use Rattle.ux_dawg.specs.declared.state.Edge.{Edge}
use Rattle.ux_dawg.specs.declared.state.State.{State}
use Rattle.ux_image_reader.specs.declared.cursor.Cursor.{Cursor}
use Rattle.ux_image_reader.specs.declared.error.ImageError.{ImageError}
use Rattle.ux_image_reader.specs.declared.error.ImageError.TheVariants.{BadMagic, Short, BadState, BadCode, Trailing, TooMany, NoMemory}
use Rattle.ux_image_reader.specs.Fronts.{IsMisplaced}
use Rattle.ux_image_reader.specs.Layout.{place_behind, written_all, written_edges}
use Rattle.ux_image_reader.specs.Numbers.{numbers_of}
use Rattle.ux_image_reader.specs.Tests.{limits_behind, used_by, AllPass, EdgesPass, IsLetter, IsWhole, Pass}

-- the whole numbers that are left
abbrev pub numbers_left : Cursor → List ℕ
numbers_left cursor = numbers_of (drop cursor.place cursor.bytes.now)

-- the cursor moved past these numbers
pub record Passes (old new : Cursor) (numbers : List ℕ) : Type 0 where
  pub same : new.bytes.now ≡ old.bytes.now
  pub past : numbers_left old ≡ numbers ++ numbers_left new
  pub place : new.place ≡ old.place + 4 * length numbers

-- why a part isn't read: what is there of it fails, or doesn't fail and isn't whole
abbrev pub Stops : (pass whole : Type 0) → (offset : ℕ) → ImageError → Type 0
Stops pass whole offset BadMagic = ⊥
Stops pass whole offset Short = pass × (whole → ⊥)
Stops pass whole offset (BadState place) = (pass → ⊥) × (place ≡ offset)
Stops pass whole offset (BadCode number) = ⊥
Stops pass whole offset Trailing = ⊥
Stops pass whole offset TooMany = ⊥
Stops pass whole offset NoMemory = Unit {0}

-- the number is higher than the last one
abbrev pub IsAbove : List ℕ → ℕ → Type 0
IsAbove numbers number = (k : ℕ) → k + 1 ≡ length numbers → slice_index numbers k < number

-- the characters of edges
abbrev pub letters_of : List Edge → List ℕ
letters_of edges = map (λ (edge : Edge). edge.letter) edges

-- the targets of edges
abbrev pub targets_of : List Edge → List ℕ
targets_of edges = map (λ (edge : Edge). edge.target) edges

-- the edges of state number n pass their tests
abbrev pub ArePassed : (n : ℕ) → List Edge → Type 0
ArePassed n edges = EdgesPass n (letters_of edges) (targets_of edges)

-- the character may stand at the edge behind these ones
abbrev pub IsNextLetter : List Edge → ℕ → Type 0
IsNextLetter before letter = IsLetter letter × IsAbove (letters_of before) letter

-- the numbers begin with those of the edge of state number n behind these ones, as far as they are
-- there, and each passes its test
abbrev pub EdgePasses : (n : ℕ) → List Edge → List ℕ → Type 0
EdgePasses n before [] = Unit {0}
EdgePasses n before (letter ∷ []) = IsNextLetter before letter
EdgePasses n before (letter ∷ (target ∷ numbers)) = IsNextLetter before letter × (target < n)

-- the states that pass are read, and then a part isn't
pub record StopsStates (count lists : ℕ) (cursor : Cursor) (error : ImageError) : Type 0 where
  pub before : List State
  pub rest : List ℕ
  pub numbers : numbers_left cursor ≡ written_all before ++ rest
  pub passed : AllPass count lists before
  pub fewer : length before < count
  pub stops : Stops (Pass (limits_behind count lists before) rest) (IsWhole rest)
      (cursor.place + 4 * length (written_all before)) error

-- the first number of which a fact holds
abbrev pub IsFirst : (ℕ → Type 0) → Option ℕ → Type 0
IsFirst P None = (number : ℕ) → P number → ⊥
IsFirst P (Some first) = P first × ((number : ℕ) → number < first → P number → ⊥)

-- the lower of two numbers, as far as they are there
abbrev pub first_of : (one other : Option ℕ) → Option ℕ
first_of None other = other
first_of (Some one) None = Some one
first_of (Some one) (Some other) = Some (min one other)

-- so many edges of state number n were read, and pass
pub record ReadsEdges (n many : ℕ) (old new : Cursor) (edges : List Edge) : Type 0 where
  pub read : Passes old new (written_edges edges)
  pub many_are : length edges ≡ many
  pub passed : ArePassed n edges

-- so many states were read, and pass
pub record ReadsStates (count lists many : ℕ) (old new : Cursor) (states : List State) :
    Type 0 where
  pub read : Passes old new (written_all states)
  pub many_are : length states ≡ many
  pub passed : AllPass count lists states

-- the states have no fault among one another, and use so many lists
pub record AreTogether (lists : ℕ) (states : List State) : Type 0 where
  pub none : (number : ℕ) → IsMisplaced states number → ⊥
  pub used : used_by states ≡ lists

-- the first state with a fault among the others begins at this place
pub record FirstBegins (states : List State) (place : ℕ) : Type 0 where
  pub number : ℕ
  pub first : IsFirst (IsMisplaced states) (Some number)
  pub is : place ≡ place_behind (take number states)

-- no state has a fault, but a list isn't used
pub record IsUnused (lists : ℕ) (states : List State) (place : ℕ) : Type 0 where
  pub none : (number : ℕ) → IsMisplaced states number → ⊥
  pub fewer : used_by states < lists
  pub is : place ≡ 12

-- why the states of a file that tells so many lists can't stand together
abbrev pub RefusesTogether : (lists : ℕ) → List State → ImageError → Type 0
RefusesTogether lists states BadMagic = ⊥
RefusesTogether lists states Short = ⊥
RefusesTogether lists states (BadState offset) =
    FirstBegins states offset ⊎ IsUnused lists states offset
RefusesTogether lists states (BadCode number) = ⊥
RefusesTogether lists states Trailing = ⊥
RefusesTogether lists states TooMany = ⊥
RefusesTogether lists states NoMemory = Unit {0}
