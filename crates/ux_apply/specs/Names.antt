-- The priority of a dictionary, by the name of its file. The manual, on applying dictionaries.
-- Public: the crate's public contracts speak of it.
use Rattle.std.specs.Prelude.{◌≡◌, ◌≢◌, ◌⊎◌, ℕ, ◌<◌, List, [], ◌∷◌, ◌++◌, Contains, length, slice_index}
use Rattle.ux_apply.specs.declared.priority.Priority.{Priority}
use Rattle.ux_apply.specs.declared.priority.Priority.TheVariants.{High, Normal, Low}

abbrev pub DOT : ℕ
DOT = 46

abbrev pub HYPHEN : ℕ
HYPHEN = 45

abbrev pub PLUS : ℕ
PLUS = 43

-- a dot stands at the place, and none behind it
pub record IsLastDot (name : List ℕ) (place : ℕ) : Type 0 where
  pub within : place < length name
  pub dot : slice_index name place ≡ DOT
  pub last : (later : ℕ) → place < later → later < length name → slice_index name later ≢ DOT

-- the name is the stem and an extension, which begins at the last dot
abbrev pub HasExtension : (name stem : List ℕ) → Type 0
HasExtension name stem = (extension : List ℕ) × (name ≡ stem ++ DOT ∷ extension)
    × (Contains extension DOT → ⊥)

-- the stem is the name without its extension, if it has one
abbrev pub IsStem : (name stem : List ℕ) → Type 0
IsStem name stem = HasExtension name stem ⊎ ((name ≡ stem) × (Contains name DOT → ⊥))

-- the sign is the last one
abbrev pub EndsIn : (sign : ℕ) (stem : List ℕ) → Type 0
EndsIn sign stem = (front : List ℕ) × (stem ≡ front ++ sign ∷ [])

-- a stem of this ending has this priority
abbrev pub Gives : (stem : List ℕ) → Priority → Type 0
Gives stem High = EndsIn HYPHEN stem
Gives stem Normal = (EndsIn HYPHEN stem → ⊥) × (EndsIn PLUS stem → ⊥)
Gives stem Low = EndsIn PLUS stem

-- the name's stem ends so that the dictionary has this priority
abbrev pub IsPriorityOf : (name : List ℕ) → Priority → Type 0
IsPriorityOf name priority = (stem : List ℕ) × IsStem name stem × Gives stem priority
