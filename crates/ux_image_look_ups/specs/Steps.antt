-- Steps by a character of a text. Inner: the crate's own functions alone speak of it.
use Rattle.std.specs.Prelude.{◌≡◌, ◌↔◌, ℕ, List, ◌⊎◌, Contains, IsTrue, Option, None, Some, get_or}
use Rattle.ux_alphabet.specs.Letters.{Letters, Fits, FitsAlone}
use Rattle.ux_dawg.specs.Building.{bare}
use Rattle.ux_dawg.specs.Paths.{IsStep}
use Rattle.ux_dawg.specs.declared.state.Edge.{Edge}
use Rattle.ux_dawg.specs.declared.state.State.{State}
use Rattle.ux_image_look_ups.specs.declared.steps.Taken.{Taken}

-- where it says so, no other letter fits the character
abbrev pub IsTaken : Taken → Type 0
IsTaken taken = IsTrue taken.alone → FitsAlone taken.alphabet.now taken.c

-- a letter that fits the character leads from one state to the other
abbrev pub GoesTo : List State → Letters → (c : ℕ) → (source target : ℕ) → Type 0
GoesTo states alphabet c source target =
    (a : ℕ) × IsStep states source a target × Fits alphabet a c

-- so one leads from the state, if there is one
abbrev pub StepsTo : List State → Taken → Option ℕ → (target : ℕ) → Type 0
StepsTo states taken None target = ⊥
StepsTo states taken (Some source) target =
    GoesTo states taken.alphabet.now taken.c source target

-- so one leads from some of the states
abbrev pub GoesFrom : List State → Letters → (c : ℕ) → (sources : List ℕ) → (target : ℕ) → Type 0
GoesFrom states alphabet c sources target =
    (source : ℕ) × Contains sources source × GoesTo states alphabet c source target

-- the states to which the character leads from these are added
abbrev pub Puts : List State → Taken → (sources old new : List ℕ) → Type 0
Puts states taken sources old new = (t : ℕ) →
    Contains new t ↔ (Contains old t ⊎ GoesFrom states taken.alphabet.now taken.c sources t)

-- the state to which the edge leads is added, where the edge fits the character
abbrev pub PutsEdge : Taken → Edge → (old new : List ℕ) → Type 0
PutsEdge taken edge old new = (t : ℕ) → Contains new t
    ↔ (Contains old t ⊎ (Fits taken.alphabet.now edge.letter taken.c × (t ≡ edge.target)))

-- the number is that of a state of these in which a form ends, if there is one
abbrev pub EndsBy : List State → (numbers : List ℕ) → Option ℕ → Type 0
EndsBy states numbers None = (s : ℕ) → Contains numbers s → (get_or states s bare).code ≡ None
EndsBy states numbers (Some code) =
    (s : ℕ) × Contains numbers s × ((get_or states s bare).code ≡ Some code)
