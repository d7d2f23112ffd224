-- Which graphs are rules, and why others are refused. The manual, on ELAG. Public: the crate's
-- public contracts speak of it.
use Rattle.std.specs.Prelude.{◌≡◌, ℕ, ◌<◌, List, None, Any, Contains}
use Rattle.ux_grf.specs.declared.graph.Graph.{Graph}
use Rattle.ux_grf.specs.declared.item.Item.{Item}
use Rattle.ux_grf.specs.declared.item.Item.TheVariants as item
use Rattle.ux_rules.specs.declared.test.Test.{Test}
use Rattle.ux_rules.specs.declared.step.Sign.{Sign}
use Rattle.ux_rules.specs.declared.step.Sign.TheVariants.{If}
use Rattle.ux_rules.specs.declared.error.RuleError.{RuleError}
use Rattle.ux_rules.specs.declared.error.RuleError.TheVariants.{Call, BadItem, BadMarks, NoIf, NoMemory}
use Rattle.ux_rules.specs.Words.{lines_of, mark_of, IsSaid, IsPairOf}
use Rattle.ux_rules.specs.Marks.{IsBadBox}

-- the item calls a graph
abbrev pub IsCall : Item → Type 0
IsCall (item.Call name) = Unit {0}
IsCall other = ⊥

-- a line of the box calls a graph
abbrev pub HasCall : Graph → ℕ → Type 0
HasCall graph node = Any (Any IsCall) (lines_of graph node)

-- a line of the box is no mark, and has an item that neither tests a reading nor is empty
pub record HasBadItem (graph : Graph) (node : ℕ) : Type 0 where
  pub line : List Item
  pub of_box : Contains (lines_of graph node) line
  pub no_mark : mark_of line ≡ None
  pub bad : Item
  pub within : Contains line bad
  pub unsaid : (signs : List Sign) → IsSaid bad signs → ⊥

-- the graph has an if-pair
abbrev pub HasIf : Graph → Type 0
HasIf graph = (left right : List Test) × IsPairOf graph If left right

-- it is so of no node
abbrev pub IsNowhere : (ℕ → Type 0) → Type 0
IsNowhere IsSo = (node : ℕ) → IsSo node → ⊥

-- it is so of this node, and of none before
pub record IsFirst (IsSo : ℕ → Type 0) (node : ℕ) : Type 0 where
  pub here : IsSo node
  pub before : (other : ℕ) → other < node → IsSo other → ⊥

-- the graph is a rule's
pub record IsRuleGraph (graph : Graph) : Type 0 where
  pub no_call : IsNowhere (HasCall graph)
  pub no_bad_item : IsNowhere (HasBadItem graph)
  pub no_bad_box : IsNowhere (IsBadBox graph)
  pub has_if : HasIf graph

-- when each refusal comes, and with which node; out of memory may come at any graph
abbrev pub Refuses : Graph → RuleError → Type 0
Refuses graph (Call node) = IsFirst (HasCall graph) node
Refuses graph (BadItem node) = IsNowhere (HasCall graph) × IsFirst (HasBadItem graph) node
Refuses graph (BadMarks node) = IsNowhere (HasCall graph) × IsNowhere (HasBadItem graph)
    × IsFirst (IsBadBox graph) node
Refuses graph NoIf = IsNowhere (HasCall graph) × IsNowhere (HasBadItem graph)
    × IsNowhere (IsBadBox graph) × (HasIf graph → ⊥)
Refuses graph NoMemory = Unit {0}
