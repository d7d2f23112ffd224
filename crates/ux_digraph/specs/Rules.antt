-- Places that follow from facts by rules with two premises. Public: the crate's public contracts
-- speak of it.
use Rattle.std.specs.Prelude.{ℕ, ◌<◌, Bool, false, List, Contains, get_or}
use Rattle.ux_digraph.specs.declared.closing.Rule.{Rule}

-- whether the place is marked
abbrev pub is_marked_at : List Bool → ℕ → Bool
is_marked_at marks x = get_or marks x false

-- a place holds as a fact, or by a rule whose two premises hold
pub data Derived (rules : List Rule) (facts : List ℕ) : ℕ → Type 0 where
  fact : {x : ℕ} → Contains facts x → Derived rules facts x
  by : (r : Rule) → Contains rules r → Derived rules facts r.first → Derived rules facts r.second →
      Derived rules facts r.place

-- the rules and the facts speak of the places below the size
pub record AreRulesInside (size : ℕ) (rules : List Rule) (facts : List ℕ) : Type 0 where
  pub rule : (r : Rule) → Contains rules r →
      (r.place < size) × (r.first < size) × (r.second < size)
  pub start : (x : ℕ) → Contains facts x → x < size
