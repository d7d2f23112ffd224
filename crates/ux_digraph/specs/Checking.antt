-- Numbers and rules that stay below a bound. Inner: the crate's own functions alone speak of it.
use Rattle.std.specs.Prelude.{ℕ, ◌<◌, List, Contains}
use Rattle.ux_digraph.specs.declared.closing.Rule.{Rule}

-- each number is below the bound
abbrev pub AreBelow : List ℕ → ℕ → Type 0
AreBelow numbers bound = (x : ℕ) → Contains numbers x → x < bound

-- the rule speaks of the places below the size
abbrev pub IsRuleBelow : ℕ → Rule → Type 0
IsRuleBelow size r = (r.place < size) × (r.first < size) × (r.second < size)

-- each rule does
abbrev pub AreRulesBelowSize : List Rule → ℕ → Type 0
AreRulesBelowSize rules size = (r : Rule) → Contains rules r → IsRuleBelow size r
