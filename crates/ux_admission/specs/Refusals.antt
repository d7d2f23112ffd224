-- What the refusal of a grammar tells. Inner: the crates that make nets alone speak of it.
use Rattle.std.specs.Prelude.{ℕ, List}
use Rattle.ux_admission.specs.declared.admissible.AdmissionError.{AdmissionError}
use Rattle.ux_admission.specs.declared.admissible.AdmissionError.TheVariants.{EmptyLoop, LeftRecursion, NoMemory}
use Rattle.ux_boxes.specs.declared.place.Place.{Place}
use Rattle.ux_boxes.specs.Places.{place_grammar}
use Rattle.ux_admission.specs.Admissible.{IsOnEmptyLoop, IsLeftRecursive}
use Rattle.ux_boxes.specs.Refusing.{IsFirst, IsFirstAmong, is_name_at}
use Rattle.ux_boxes.specs.declared.error.NetError.{NetError}
use Rattle.ux_boxes.specs.declared.error.NetError.TheVariants.{MissingGraph, BadMask, ContextClose, NegativeRecursion, EmptyLoop, LeftRecursion, NoMemory}
use Rattle.ux_admission.specs.ContextClose.{IsBadContext}
use Rattle.ux_admission.specs.NegativeRecursion.{IsFirstNegative}

-- the first node on an empty loop; where there is none, the first at which a graph enters itself
abbrev pub IsRefusal : List (List Place) → AdmissionError → Type 0
IsRefusal graphs (EmptyLoop graph node) =
    IsFirst (IsOnEmptyLoop (place_grammar graphs)) graph node
IsRefusal graphs (LeftRecursion graph node) =
    ((g n : ℕ) → IsOnEmptyLoop (place_grammar graphs) g n → ⊥)
    × IsFirst (IsLeftRecursive (place_grammar graphs)) graph node
IsRefusal graphs NoMemory = Unit {0}

-- graphs of these names are refused for a context of their places, or when it is out of memory
abbrev pub RefusesContexts : (names : List (List ℕ)) → List (List Place) → NetError → Type 0
RefusesContexts names places (MissingGraph name) = ⊥
RefusesContexts names places (BadMask name node place) = ⊥
RefusesContexts names places (ContextClose name node) =
    IsFirstAmong names (IsBadContext (place_grammar places)) name node
RefusesContexts names places (NegativeRecursion name) = ⊥
RefusesContexts names places (EmptyLoop name node) = ⊥
RefusesContexts names places (LeftRecursion name node) = ⊥
RefusesContexts names places NoMemory = Unit {0}

-- graphs of these names are refused for what their places show, or when it is out of memory
abbrev pub RefusesPlaces : (names : List (List ℕ)) → List (List Place) → NetError → Type 0
RefusesPlaces names places (MissingGraph name) = ⊥
RefusesPlaces names places (BadMask name node place) = ⊥
RefusesPlaces names places (ContextClose name node) = ⊥
RefusesPlaces names places (NegativeRecursion name) = ⊥
RefusesPlaces names places (EmptyLoop name node) =
    IsFirstAmong names (IsOnEmptyLoop (place_grammar places)) name node
RefusesPlaces names places (LeftRecursion name node) =
    ((g m : ℕ) → IsOnEmptyLoop (place_grammar places) g m → ⊥)
    × IsFirstAmong names (IsLeftRecursive (place_grammar places)) name node
RefusesPlaces names places NoMemory = Unit {0}

-- graphs of these names are refused for a context that may not follow and uses what has it, or when it
-- is out of memory
abbrev pub RefusesRecursion : (names : List (List ℕ)) → List (List Place) → NetError → Type 0
RefusesRecursion names places (MissingGraph name) = ⊥
RefusesRecursion names places (BadMask name node place) = ⊥
RefusesRecursion names places (ContextClose name node) = ⊥
RefusesRecursion names places (NegativeRecursion name) =
    (g : ℕ) × is_name_at names g name × IsFirstNegative (place_grammar places) g
RefusesRecursion names places (EmptyLoop name node) = ⊥
RefusesRecursion names places (LeftRecursion name node) = ⊥
RefusesRecursion names places NoMemory = Unit {0}
