-- The contexts of one graph that are refused, by where its steps lead. Inner: the crate's own
-- functions alone speak of it.
use Rattle.std.specs.Prelude.{◌≡◌, ◌≢◌, ℕ, ◌<◌, ◌≤◌, ◌⊎◌, ◌↔◌, List, Option, Some, None, Contains, Bool, true}
use Rattle.ux_digraph.specs.Paths.{row_of}
use Rattle.ux_digraph.specs.Rules.{is_marked_at}
use Rattle.ux_digraph.specs.declared.closing.Rule.{Rule}
use Rattle.ux_admission.specs.declared.leading.Leading.{Leading}
use Rattle.ux_admission.specs.Leading.{Leads, Opens, Closes}
use Rattle.ux_net.specs.Words.{ordinary, opens, negative}

-- the first place holds where the second does
abbrev pub rule_to : (place premise : ℕ) → Rule
rule_to place premise = record { place = place; first = premise; second = premise }

-- a rule by which one of the sources holds where the premise does
abbrev pub IsRuleFrom : (sources : List ℕ) → (premise : ℕ) → Rule → Type 0
IsRuleFrom sources premise rule = (a : ℕ) × Contains sources a × (rule_to a premise ≡ rule)

module _ (leading : Leading) where
  -- a run from the place reaches an end
  pub data Ends : ℕ → Type 0 where
    stops : {a : ℕ} → Contains (row_of leading.sources.items 1) a → Ends a
    follows : {a b : ℕ} → Leads leading ordinary a b → Ends b → Ends a
    passes : {a o d : ℕ} → Opens leading a o → Closes leading o d → Ends d → Ends a

  -- the rule of a step into the place that neither opens nor closes a context
  abbrev pub IsStepRule : ℕ → Rule → Type 0
  IsStepRule n rule = (a : ℕ) × Leads leading ordinary a n × (rule_to a n ≡ rule)

  -- the rule of a context that opens into the place and is closed into one of these
  abbrev pub IsJumpRule : (closers : List ℕ) → ℕ → Rule → Type 0
  IsJumpRule closers n rule =
      (d : ℕ) × Contains closers d × ((a : ℕ) × Opens leading a n × (rule_to a d ≡ rule))

  -- a rule by which a place reaches an end where another one does
  abbrev pub IsNextRule : Rule → Type 0
  IsNextRule rule = ((n : ℕ) × IsStepRule n rule)
      ⊎ ((n a d : ℕ) × Opens leading a n × Closes leading n d × (rule_to a d ≡ rule))

  -- all of these
  abbrev pub AreNextRules : List Rule → Type 0
  AreNextRules rules = (rule : Rule) → Contains rules rule ↔ IsNextRule rule

  -- the places that reach an end are marked
  pub record AreEndMarks (marks : List Bool) : Type 0 where
    pub exact : (a : ℕ) → (is_marked_at marks a ≡ true) ↔ Ends a

  -- a context opens into the place that isn't closed before an end
  abbrev pub IsOpenLong : ℕ → Type 0
  IsOpenLong n =
      ((a : ℕ) × Opens leading a n) × (((c : ℕ) → Closes leading n c → ⊥) ⊎ Ends n)

  -- a context that may not follow opens into the place, and is closed into two
  abbrev pub IsForked : ℕ → Type 0
  IsForked n = ((a : ℕ) × Leads leading (opens negative) a n)
      × ((c d : ℕ) × (c ≢ d) × Closes leading n c × Closes leading n d)

  abbrev pub IsUnclosed : ℕ → Type 0
  IsUnclosed n = IsOpenLong n ⊎ IsForked n

  -- a context is refused at the place
  abbrev pub IsBad : ℕ → Type 0
  IsBad n = IsUnclosed n ⊎ Closes leading 0 n

-- two of the items differ
abbrev pub HasTwo : List ℕ → Type 0
HasTwo row = (c d : ℕ) × (c ≢ d) × Contains row c × Contains row d

-- the first number of which it is so, or there is none
abbrev pub IsLeastOf : ((n : ℕ) → Type 0) → Option ℕ → Type 0
IsLeastOf IsSo None = (n : ℕ) → IsSo n → ⊥
IsLeastOf IsSo (Some n) = IsSo n × ((m : ℕ) → m < n → IsSo m → ⊥)

-- the lesser of two numbers, where there are any
abbrev pub IsLesser : (first second least : Option ℕ) → Type 0
IsLesser None second least = least ≡ second
IsLesser (Some a) None least = least ≡ Some a
IsLesser (Some a) (Some b) None = ⊥
IsLesser (Some a) (Some b) (Some n) =
    (n ≤ a) × (n ≤ b) × ((n ≡ a) ⊎ (n ≡ b))
