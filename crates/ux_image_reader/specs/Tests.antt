-- What is tested of each state by itself, on the numbers of it that are there. Public: the crate's
-- public contracts speak of it.
use Rattle.std.specs.Prelude.{◌≡◌, ◌≢◌, ℕ, ◌+◌, ◌*◌, ◌<◌, ◌≤◌, List, [], ◌∷◌, All, Some, length, max, slice_get, take}
use Rattle.std.specs.Char.{IsScalar}
use Rattle.std.specs.List.Sorted.{IsStrictlyIncreasing}
use Rattle.ux_dawg.specs.declared.state.State.{State}
use Rattle.ux_image_reader.specs.declared.limits.Limits.{Limits}
use Rattle.ux_image_reader.specs.Layout.{final_number, written}

-- how many lists of codes states use that take them in the order of their numbers
abbrev pub used_by : List State → ℕ
used_by [] = 0
used_by (state ∷ states) = max (final_number state.code) (used_by states)

-- what the state behind these ones is tested against
abbrev pub limits_behind : (count lists : ℕ) → List State → Limits
limits_behind count lists before = record {
  count = count;
  lists = lists;
  number = length before;
  used = used_by before;
}

-- the list is none, one that was used before, or the next one
pub record IsList (limits : Limits) (list : ℕ) : Type 0 where
  pub below : list ≤ limits.lists
  pub next : list ≤ limits.used + 1

-- a state without list and edges is the only one
abbrev pub IsAlive : Limits → (list many : ℕ) → Type 0
IsAlive limits list many = list ≡ 0 → many ≡ 0 → limits.count ≡ 1

abbrev pub LINE_FEED : ℕ
LINE_FEED = 10

-- the character may stand at an edge
abbrev pub IsLetter : ℕ → Type 0
IsLetter letter = IsScalar letter × (letter ≢ LINE_FEED)

-- the characters among the numbers of edges
abbrev pub letters_in : List ℕ → List ℕ
letters_in [] = []
letters_in (letter ∷ []) = letter ∷ []
letters_in (letter ∷ (target ∷ numbers)) = letter ∷ letters_in numbers

-- the targets among the numbers of edges
abbrev pub targets_in : List ℕ → List ℕ
targets_in [] = []
targets_in (letter ∷ []) = []
targets_in (letter ∷ (target ∷ numbers)) = target ∷ targets_in numbers

-- the characters and the targets of some edges of state number n
pub record EdgesPass (n : ℕ) (letters targets : List ℕ) : Type 0 where
  pub each : All IsLetter letters
  pub ascending : IsStrictlyIncreasing letters
  pub below : All (λ target. target < n) targets

-- the numbers begin with those of so many edges of state number n, as far as they are there, and each
-- passes its test
abbrev pub PassAsEdges : (n many : ℕ) → List ℕ → Type 0
PassAsEdges n many numbers =
    EdgesPass n (take many (letters_in numbers)) (take many (targets_in numbers))

-- the numbers begin with those of a state, as far as they are there, and each passes its test
abbrev pub Pass : Limits → List ℕ → Type 0
Pass limits [] = Unit {0}
Pass limits (list ∷ []) = IsList limits list
Pass limits (list ∷ (many ∷ numbers)) =
    IsList limits list × IsAlive limits list many × PassAsEdges limits.number many numbers

-- all numbers of the state are there
abbrev pub IsWhole : List ℕ → Type 0
IsWhole [] = ⊥
IsWhole (list ∷ []) = ⊥
IsWhole (list ∷ (many ∷ numbers)) = 2 * many ≤ length numbers

-- each state passes its tests behind those before it
abbrev pub AllPass : (count lists : ℕ) → List State → Type 0
AllPass count lists states = (number : ℕ) (state : State) → slice_get states number ≡ Some state →
    Pass (limits_behind count lists (take number states)) (written state)
