-- What the refusal of a grammar without levels tells. Public: the contract of `levels_of` speaks of
-- it.
use Rattle.std.specs.Prelude.{List}
use Rattle.ux_admission.specs.declared.negative_recursion.LevelsError.{LevelsError}
use Rattle.ux_admission.specs.declared.negative_recursion.LevelsError.TheVariants.{NegativeRecursion, NoMemory}
use Rattle.ux_boxes.specs.declared.place.Place.{Place}
use Rattle.ux_boxes.specs.Places.{place_grammar}
use Rattle.ux_admission.specs.NegativeRecursion.{IsFirstNegative}

-- the first graph with a negative recursion
abbrev pub RefusesLevels : List (List Place) → LevelsError → Type 0
RefusesLevels graphs (NegativeRecursion graph) = IsFirstNegative (place_grammar graphs) graph
RefusesLevels graphs NoMemory = Unit {0}
