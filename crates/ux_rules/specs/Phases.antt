-- The phases of a path, by the marks that it has met. Inner: the crate's own functions alone speak
-- of it.
use Rattle.std.specs.Prelude.{◌≡◌, ℕ, ◌+◌, ◌*◌, ◌<◌, ◌==◌, ◌||◌, ◌&&◌, nat_le, min, ◌↔◌, ◌⊎◌, Bool, true, false, if◌then◌else◌, List, [], ◌∷◌, Contains, length}
use Rattle.ux_digraph.specs.declared.closing.Rule.{Rule}
use Rattle.ux_digraph.specs.Rules.{is_marked_at}
use Rattle.ux_rules.specs.declared.step.Sign.{Sign}
use Rattle.ux_rules.specs.declared.step.Sign.TheVariants.{Free, If, Then, Read}
use Rattle.ux_rules.specs.declared.step.Step.{Step}
use Rattle.ux_rules.specs.Marks.{marks}
use Rattle.ux_rules.specs.Runs.{Run}

-- the phase after a mark, of which the first phase is this one where it is the first mark
abbrev pub mark_phase : (first : ℕ) → ℕ → ℕ
mark_phase first phase = if phase == 0 then first
    else (if (phase == 4) || (phase == 8) then phase else phase + 1)

-- the phase after a sign
abbrev pub next_phase : ℕ → Sign → ℕ
next_phase phase Free = phase
next_phase phase If = mark_phase 1 phase
next_phase phase Then = mark_phase 5 phase
next_phase phase (Read test) = phase

-- the phase behind these marks
abbrev pub phase_of : List Sign → ℕ
phase_of [] = 0
phase_of (If ∷ met) = 1 + min (length met) 3
phase_of (Then ∷ met) = 5 + min (length met) 3
phase_of (other ∷ met) = 0

-- an item is bad before the first mark and after the third
abbrev pub is_bad_item_at : ℕ → Bool
is_bad_item_at phase =
    (phase == 0) || ((phase == 3) || ((phase == 4) || ((phase == 7) || (phase == 8))))

-- a mark is bad as a fourth one, and where the first was of another kind
abbrev pub bad_at : ℕ → Sign → Bool
bad_at phase Free = false
bad_at phase If = (phase == 3) || (nat_le 5 phase && nat_le phase 8)
bad_at phase Then = (phase == 7) || (nat_le 1 phase && nat_le phase 4)
bad_at phase (Read test) = is_bad_item_at phase

-- fewer than three marks were met
abbrev pub is_short_at : ℕ → Bool
is_short_at phase =
    (phase == 0) || ((phase == 1) || ((phase == 2) || ((phase == 5) || (phase == 6))))

-- the rule that leads along a step in a phase
abbrev pub rule_at : Step → ℕ → Rule
rule_at s phase = record {
  place = s.to * 9 + next_phase phase s.sign;
  first = s.from * 9 + phase;
  second = s.from * 9 + phase;
}

-- the rules are those of the steps in the nine phases
pub record AreRulesOf (steps : List Step) (rules : List Rule) : Type 0 where
  pub only : (r : Rule) → Contains rules r →
      (s : Step) × Contains steps s × ((phase : ℕ) × (phase < 9) × (r ≡ rule_at s phase))
  pub all : (s : Step) → Contains steps s → (phase : ℕ) → phase < 9 →
      Contains rules (rule_at s phase)

-- the rules of one more step in the first phases
pub record AreRulesAdded (old : List Rule) (s : Step) (count : ℕ) (new : List Rule) : Type 0 where
  pub kept : (r : Rule) → Contains old r → Contains new r
  pub only : (r : Rule) → Contains new r →
      Contains old r ⊎ ((phase : ℕ) × (phase < count) × (r ≡ rule_at s phase))
  pub all : (phase : ℕ) → phase < count → Contains new (rule_at s phase)

-- some run of the steps leads from the start to the place in the phase
abbrev pub IsIn : List Step → (place phase : ℕ) → Type 0
IsIn steps place phase =
    (word : List Sign) × Run steps 0 place word × (phase_of (marks word) ≡ phase)

-- the marks tell in which phases the places are reached
abbrev pub FindsPhases : List Step → List Bool → Type 0
FindsPhases steps found = (place phase : ℕ) → phase < 9 →
    (is_marked_at found (place * 9 + phase) ≡ true) ↔ IsIn steps place phase
