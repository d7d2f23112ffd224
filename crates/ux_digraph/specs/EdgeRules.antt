-- The edges of a graph as rules: the end of an edge is reached where its beginning is. Inner: the
-- crate's own functions alone speak of it.
use Rattle.std.specs.Prelude.{◌≡◌, ℕ, ◌<◌, List, Contains, ◌⊎◌, ◌↔◌}
use Rattle.ux_digraph.specs.declared.closing.Rule.{Rule}
use Rattle.ux_digraph.specs.Paths.{row_of}

-- the rule of an edge of the node
abbrev pub IsRuleOf : ℕ → List ℕ → Rule → Type 0
IsRuleOf node row rule =
    (rule.first ≡ node) × (rule.second ≡ node) × Contains row rule.place

-- the rules are those of the edges of the first nodes
abbrev pub AreRulesBelow : List (List ℕ) → ℕ → List Rule → Type 0
AreRulesBelow edges count rules =
    (rule : Rule) → Contains rules rule ↔
    ((rule.first < count) × IsRuleOf rule.first (row_of edges rule.first) rule)

-- the rules of the edges of one more node
abbrev pub AreRulesAdded : List Rule → ℕ → List ℕ → List Rule → Type 0
AreRulesAdded before node row rules =
    (rule : Rule) → Contains rules rule ↔ (Contains before rule ⊎ IsRuleOf node row rule)
