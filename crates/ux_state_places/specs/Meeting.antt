-- To which places runs from units lead, by links between numbered places. Inner: the crate's own
-- functions alone speak of it.
use Rattle.std.specs.Prelude.{◌≡◌, ◌↔◌, ◌⊎◌, ℕ, ◌+◌, ◌<◌, List, length, get_or, Contains, Bool, true, false}
use Rattle.ux_digraph.specs.declared.closing.Rule.{Rule}
use Rattle.ux_boxes.specs.declared.place.Place.{Place}
use Rattle.ux_boxes.specs.Numbers.{number_of, places_before}
use Rattle.ux_boxes.specs.Places.{places_of, place_grammar, label_lines}
use Rattle.ux_net.specs.Words.{Sign}
use Rattle.ux_net.specs.Closers.{OpensInto}
use Rattle.ux_state_places.specs.Arrivals.{IsOpened}
use Rattle.ux_admission.specs.declared.uses.Link.{Link}
use Rattle.ux_net.specs.declared.label.Label.{Label}
use Rattle.ux_admission.specs.Gains.{SoBelow}
use Rattle.ux_admission.specs.Ways.{IsOpening}
use Rattle.ux_admission.specs.Admissible.{IsUnit, IsMet}

-- a place is met where one is from which a link leads to it
abbrev pub rule_of_link : Link → Rule
rule_of_link link = record { place = link.to; first = link.from; second = link.from }

-- the rules are those of the links
abbrev pub AreLinkRules : List Link → List Rule → Type 0
AreLinkRules links rules = (rule : Rule) →
    Contains rules rule ↔ ((link : Link) × Contains links link × (rule_of_link link ≡ rule))

-- the numbers are those of the first places of units
abbrev pub AreUnitNumbers : List (List Place) → List ℕ → Type 0
AreUnitNumbers raws numbers = (x : ℕ) →
    Contains numbers x ↔ ((g : ℕ) × (p : ℕ) × (p < length (places_of raws g))
    × (x ≡ number_of raws g p) × IsUnit (place_grammar raws) g p)

-- the places to which a run from the first place of some unit leads are marked
abbrev pub AreMetMarks : List (List Place) → List Bool → Type 0
AreMetMarks raws marks = (g p : ℕ) → p < length (places_of raws g) →
    (get_or marks (number_of raws g p) false ≡ true) ↔ IsMet (place_grammar raws) g p

-- a place with a line that opens a context has a step into it that does
abbrev pub AreOpenedInto : List (List Place) → Type 0
AreOpenedInto raws = (g p : ℕ) → IsOpened (places_of raws g) p →
    (sign : Sign) × OpensInto (place_grammar raws) g sign p

-- one of the lines opens a context
abbrev pub HasOpening : List (List Label) → Type 0
HasOpening lines = (line : List Label) × Contains lines line × IsOpening line

-- a place is the first of a unit: the start, or one into which a context opens
abbrev pub IsUnitPlace : List Place → ℕ → Type 0
IsUnitPlace places n = (n ≡ 0) ⊎ HasOpening (label_lines places n)

-- its number, where so many places stand before those of its graph
abbrev pub IsUnitNumber : List Place → (before n x : ℕ) → Type 0
IsUnitNumber places before n x = IsUnitPlace places n × (before + n ≡ x)

-- the rule of a link
abbrev pub IsRuleOf : Link → Rule → Type 0
IsRuleOf link rule = rule_of_link link ≡ rule

-- what stands for a link where a list has none
abbrev pub no_link : Link
no_link = record { graph = 0; from = 0; to = 0; is_negative = false }

-- the numbers of the first places of units of the graph of this number
abbrev pub IsUnitIn : List (List Place) → (k x : ℕ) → Type 0
IsUnitIn graphs k x =
    SoBelow (length (places_of graphs (k + 1)))
    (IsUnitNumber (places_of graphs (k + 1)) (places_before graphs (k + 1))) x
