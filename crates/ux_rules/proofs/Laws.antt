-- A graph is a rule's, or is refused for one reason, and never both.
use Rattle.std.proofs.Common.{arith, ◌≡◌, ◌≢◌, ℕ, inl, inr, refl, ap}
use Rattle.ux_base.proofs.Lists.{less_or}
use Rattle.ux_grf.specs.declared.graph.Graph.{Graph}
use Rattle.ux_rules.specs.declared.error.RuleError.{RuleError}
use Rattle.ux_rules.specs.declared.error.RuleError.TheVariants.{Call, BadItem, BadMarks, NoIf, NoMemory}
use Rattle.ux_rules.specs.Refusing.{IsFirst, HasCall, HasBadItem, IsRuleGraph, Refuses}
use Rattle.ux_rules.specs.Marks.{IsBadBox}

-- there is one first
pub one_first : (IsSo : ℕ → Type 0) (n m : ℕ) → IsFirst IsSo n → IsFirst IsSo m → n ≡ m
one_first IsSo n m first other = elim (less_or n m) [
  | inl less ↦ absurd (other.before n less first.here)
  | inr more ↦ elim (less_or m n) [
    | inl less ↦ absurd (first.before m less other.here)
    | inr same ↦ omega arith
  ]
]

-- what is a rule's isn't refused
pub rule_stays : (graph : Graph) (e : RuleError) → e ≢ NoMemory → IsRuleGraph graph →
    Refuses graph e → ⊥
rule_stays graph (Call n) some rule refused = rule.no_call n refused.here
rule_stays graph (BadItem n) some rule refused = rule.no_bad_item n refused.1.here
rule_stays graph (BadMarks n) some rule refused = rule.no_bad_box n refused.2.here
rule_stays graph NoIf some rule refused = refused.3 rule.has_if
rule_stays graph NoMemory some rule refused = some refl

-- what is refused is refused for one reason
pub one_refusal : (graph : Graph) (e f : RuleError) → e ≢ NoMemory → f ≢ NoMemory →
    Refuses graph e → Refuses graph f → e ≡ f
one_refusal graph NoMemory f some more a b = absurd (some refl)
one_refusal graph (Call n) NoMemory some more a b = absurd (more refl)
one_refusal graph (BadItem n) NoMemory some more a b = absurd (more refl)
one_refusal graph (BadMarks n) NoMemory some more a b = absurd (more refl)
one_refusal graph NoIf NoMemory some more a b = absurd (more refl)
one_refusal graph (Call n) (Call m) some more a b = ap Call (one_first (HasCall graph) n m a b)
one_refusal graph (Call n) (BadItem m) some more a b = absurd (b.0 n a.here)
one_refusal graph (Call n) (BadMarks m) some more a b = absurd (b.0 n a.here)
one_refusal graph (Call n) NoIf some more a b = absurd (b.0 n a.here)
one_refusal graph (BadItem n) (Call m) some more a b = absurd (a.0 m b.here)
one_refusal graph (BadItem n) (BadItem m) some more a b =
    ap BadItem (one_first (HasBadItem graph) n m a.1 b.1)
one_refusal graph (BadItem n) (BadMarks m) some more a b = absurd (b.1 n a.1.here)
one_refusal graph (BadItem n) NoIf some more a b = absurd (b.1 n a.1.here)
one_refusal graph (BadMarks n) (Call m) some more a b = absurd (a.0 m b.here)
one_refusal graph (BadMarks n) (BadItem m) some more a b = absurd (a.1 m b.1.here)
one_refusal graph (BadMarks n) (BadMarks m) some more a b =
    ap BadMarks (one_first (IsBadBox graph) n m a.2 b.2)
one_refusal graph (BadMarks n) NoIf some more a b = absurd (b.2 n a.2.here)
one_refusal graph NoIf (Call m) some more a b = absurd (a.0 m b.here)
one_refusal graph NoIf (BadItem m) some more a b = absurd (a.1 m b.1.here)
one_refusal graph NoIf (BadMarks m) some more a b = absurd (a.2 m b.2.here)
one_refusal graph NoIf NoIf some more a b = refl
