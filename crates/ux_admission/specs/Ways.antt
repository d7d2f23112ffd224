-- The steps that may take nothing or enter a unit, and the contexts, as edges between numbered
-- places. Inner: the crates that make nets alone speak of it.
use Rattle.std.specs.Prelude.{◌≡◌, ℕ, ◌+◌, ◌-◌, ◌<◌, ◌↔◌, List, [], ◌∷◌, Option, Some, None, Bool, true, false, Contains, length, get_or}
use Rattle.ux_digraph.specs.declared.closing.Rule.{Rule}
use Rattle.ux_net.specs.declared.label.Label.{Label}
use Rattle.ux_net.specs.declared.label.Label.TheVariants.{Call}
use Rattle.ux_boxes.specs.declared.place.Place.{Place}
use Rattle.ux_admission.specs.declared.way.Way.{Way}
use Rattle.ux_admission.specs.declared.way.Passage.{Passage}
use Rattle.ux_admission.specs.declared.way.Passage.TheVariants.{Silent, Calls, Opens, Jumps}
use Rattle.ux_net.specs.Words.{Sign, Step, Letter, Run, opens, mark_of}
use Rattle.ux_boxes.specs.Places.{places_of, place_graph, place_grammar, IsPlaceStep, IsEndPlace}
use Rattle.ux_net.specs.Silent.{are_silent}
use Rattle.ux_net.specs.Closers.{ClosesInto}
use Rattle.ux_net.specs.Nullable.{IsFree}
use Rattle.ux_admission.specs.Admissible.{MovesFreely, EntersAt}
use Rattle.ux_boxes.specs.Numbers.{number_of, all_places}

-- a line that opens a context
abbrev pub IsOpening : List Label → Type 0
IsOpening line = (sign : Sign) × (mark_of line ≡ opens sign)

-- How a step to place b of graph g leads on to place c, by its line: a silent line and a call lead to
-- b, a call into its graph too. A line that opens a context leads into it, to b, and over it, to a
-- place into which it is closed.
abbrev pub Passes : List (List Place) → (g b : ℕ) → List Label → (c : ℕ) → Passage → Type 0
Passes graphs g b line c Silent = (c ≡ b) × (are_silent line ≡ true)
Passes graphs g b line c (Calls start) =
    (c ≡ b) × ((h : ℕ) × (line ≡ Call h ∷ []) × (start ≡ number_of graphs h 0))
Passes graphs g b line c Opens = (c ≡ b) × IsOpening line
Passes graphs g b line c (Jumps opening) =
    (opening ≡ b) × IsOpening line × ClosesInto (place_grammar graphs) g b c

-- the way from a place of the graph to another
abbrev pub way_at : List (List Place) → (g a c : ℕ) → Passage → Way
way_at graphs g a c passage = record {
  graph = g;
  source = a;
  target = c;
  from = number_of graphs g a;
  to = number_of graphs g c;
  passage = passage;
}

-- a way of a step from a place of the graph to another, along the line
pub record IsWayAlong (graphs : List (List Place)) (g a b : ℕ) (line : List Label) (way : Way) :
    Type 0 where
  pub graph : way.graph ≡ g
  pub source : way.source ≡ a
  pub from : way.from ≡ number_of graphs g a
  pub to : way.to ≡ number_of graphs g way.target
  pub passes : Passes graphs g b line way.target way.passage

-- the way into a context along this step
abbrev pub IsOpeningWay : (step way : Way) → Type 0
IsOpeningWay step way = record step { passage = Opens } ≡ way

-- the way of the step's graph from its source to another place
abbrev pub jump_to : Way → (base closer : ℕ) → Way
jump_to step base closer =
    record step { target = closer; to = base + closer; passage = Jumps step.target }

-- the way of a step that opens a context, over it to this place
abbrev pub IsJump : Way → (closer : ℕ) → Way → Type 0
IsJump step closer way = jump_to step (step.to - step.target) closer ≡ way

-- a way of a step of this graph
pub record IsWayOf (graphs : List (List Place)) (g : ℕ) (way : Way) : Type 0 where
  pub step : Step
  pub of_graph : IsPlaceStep (places_of graphs g) step
  pub along : IsWayAlong graphs g step.from step.to step.labels way

-- a way of a step of its graph
abbrev pub IsWay : List (List Place) → Way → Type 0
IsWay graphs way = IsWayOf graphs way.graph way

-- a way from this place of the graph
abbrev pub IsWayFrom : List (List Place) → (g a : ℕ) → Way → Type 0
IsWayFrom graphs g a way = IsWayOf graphs g way × (way.source ≡ a)

-- a step that may take nothing, or a context, as an edge
pub record IsFreeEdge (graphs : List (List Place)) (u v : ℕ) : Type 0 where
  pub graph : ℕ
  pub source : ℕ
  pub target : ℕ
  pub moves : MovesFreely (place_grammar graphs) graph source target
  pub from : u ≡ number_of graphs graph source
  pub to : v ≡ number_of graphs graph target

-- a step that enters a unit, as an edge to its first place
pub record IsEntryEdge (graphs : List (List Place)) (u v : ℕ) : Type 0 where
  pub graph : ℕ
  pub step : Step
  pub of_graph : IsPlaceStep (places_of graphs graph) step
  pub entered : ℕ
  pub first : ℕ
  pub enters : EntersAt (place_grammar graphs) graph step entered first
  pub from : u ≡ number_of graphs graph step.from
  pub to : v ≡ number_of graphs entered first

-- a run that may take nothing leads from the place to an end of its graph
pub record EndsFreely (graphs : List (List Place)) (g a : ℕ) : Type 0 where
  pub last : ℕ
  pub word : List Letter
  pub ends : IsEndPlace (places_of graphs g) last
  pub run : Run g (place_graph (places_of graphs g)) a last word
  pub free : IsFree (place_grammar graphs) word

-- a way that leads on in its graph, and not into a context
abbrev pub LeadsOn : Passage → Type 0
LeadsOn Opens = ⊥
LeadsOn other = Unit {0}

-- what has to lead to an end for such a way, beside its target: the start that is called, where one is
abbrev pub second_of : Passage → (to : ℕ) → ℕ
second_of (Calls start) to = start
second_of other to = to

-- the rule of a way: its source leads to an end where its target and the start that it calls do
abbrev pub rule_of : Way → Rule
rule_of way = record {
  place = way.from;
  first = way.to;
  second = second_of way.passage way.to;
}

abbrev pub IsRuleOf : Way → Rule → Type 0
IsRuleOf way rule = LeadsOn way.passage × (rule_of way ≡ rule)

-- the rules are those of the ways
abbrev pub AreFreeRules : List (List Place) → List Rule → Type 0
AreFreeRules graphs rules =
    (r : Rule) → Contains rules r ↔ ((way : Way) × IsWay graphs way × IsRuleOf way r)

-- the number of a place at which a run may end
abbrev pub IsEndNumber : List (List Place) → ℕ → Type 0
IsEndNumber graphs x =
    (g : ℕ) × (a : ℕ) × IsEndPlace (places_of graphs g) a × (x ≡ number_of graphs g a)

-- the numbers are those of the places at which a run may end
abbrev pub AreEnds : List (List Place) → List ℕ → Type 0
AreEnds graphs ends = (x : ℕ) → Contains ends x ↔ IsEndNumber graphs x

-- the ways are those of all graphs
pub record AreWays (graphs : List (List Place)) (ways : List Way) : Type 0 where
  pub exact : (way : Way) → Contains ways way ↔ IsWay graphs way

-- the places that lead freely to an end are marked
pub record AreFreeMarks (graphs : List (List Place)) (marks : List Bool) : Type 0 where
  pub len : length marks ≡ all_places graphs
  pub marked : (g a : ℕ) → a < length (places_of graphs g) →
      (get_or marks (number_of graphs g a) false ≡ true) ↔ EndsFreely graphs g a

-- a way may take nothing: what it calls is marked
abbrev pub IsOpen : List Bool → Passage → Type 0
IsOpen marks (Calls start) = get_or marks start false ≡ true
IsOpen marks other = LeadsOn other

-- the first place of the unit that a way to this place enters
abbrev pub entered_by : Passage → (to : ℕ) → Option ℕ
entered_by (Calls start) to = Some start
entered_by Opens to = Some to
entered_by other to = None

-- the place into which the context opens that the way leads over
abbrev pub opened_by : Passage → Option ℕ
opened_by (Jumps opening) = Some opening
opened_by other = None

-- what stands for a way where a list has none
abbrev pub no_way : Way
no_way = record { graph = 0; source = 0; target = 0; from = 0; to = 0; passage = Silent }
