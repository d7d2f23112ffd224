-- Chains of edges as rules for a search through pairs of a state and a stage. Inner: the crate's own
-- functions alone speak of it.
use Rattle.std.specs.Prelude.{◌≡◌, ◌↔◌, ◌⊎◌, ℕ, ◌+◌, ◌*◌, ◌<◌, Bool, true, List, Contains, length}
use Rattle.ux_digraph.specs.declared.closing.Rule.{Rule}
use Rattle.ux_digraph.specs.Rules.{is_marked_at}
use Rattle.ux_net.specs.declared.state.Edge.{Edge}
use Rattle.ux_net.specs.declared.state.State.{State}
use Rattle.ux_marks.specs.declared.stage.Stage.{Stage}
use Rattle.ux_marks.specs.declared.stage.Stage.TheVariants.{Before, Inside, Behind}
use Rattle.ux_marks.specs.Marks.{Leaves, Meets, after}

abbrev pub stage_number : Stage → ℕ
stage_number Before = 0
stage_number Inside = 1
stage_number Behind = 2

-- the number of the pair of a state and a stage
abbrev pub number_of : ℕ → Stage → ℕ
number_of n stage = n * 3 + stage_number stage

-- the rule that leads along an edge of a state in a stage
abbrev pub rule_along : ℕ → Edge → Stage → Rule
rule_along n edge stage = record {
  place = number_of edge.target (after stage edge.label);
  first = number_of n stage;
  second = number_of n stage;
}

-- the rule leads along the edge in some stage
abbrev pub IsRuleAlong : ℕ → Edge → Rule → Type 0
IsRuleAlong n edge rule = (stage : Stage) × (rule ≡ rule_along n edge stage)

-- and to one of so many states
abbrev pub IsRuleTo : (count n : ℕ) → Edge → Rule → Type 0
IsRuleTo count n edge rule = (edge.target < count) × IsRuleAlong n edge rule

-- along one of the edges
abbrev pub IsRuleIn : (count n : ℕ) → List Edge → Rule → Type 0
IsRuleIn count n edges rule = (edge : Edge) × Contains edges edge × IsRuleTo count n edge rule

-- along an edge of one of the first states
abbrev pub IsRuleBelow : List State → (below : ℕ) → Rule → Type 0
IsRuleBelow states below rule = (n : ℕ) × (n < below) × (edge : Edge) × Leaves states n edge
    × (edge.target < length states) × IsRuleAlong n edge rule

-- what is so was added
abbrev pub Adds : {A : Type 0} → (Is : A → Type 0) → (old new : List A) → Type 0
Adds Is old new = (x : _) → Contains new x ↔ (Contains old x ⊎ Is x)

-- the rules are those of all edges that lead to a state
abbrev pub AreRulesOf : List State → List Rule → Type 0
AreRulesOf states rules = (rule : Rule) → Contains rules rule ↔ IsRuleBelow states (length states) rule

-- the marks tell in which stages the states are met
abbrev pub TellsStages : List State → List Bool → Type 0
TellsStages states found = (n : ℕ) (stage : Stage) → n < length states →
    (is_marked_at found (number_of n stage) ≡ true) ↔ Meets states stage n
