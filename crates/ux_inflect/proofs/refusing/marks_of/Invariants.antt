use Rattle.std.proofs.Common.{◌≡◌, ◌↔◌, ℕ, ◌<◌, length, true}
use Rattle.ux_digraph.specs.Rules.{is_marked_at}
use Rattle.ux_inflect.specs.Faults.{IsFaultyAt}
use Rattle.ux_inflect.proofs.refusing.marks_of.Given as goal

-- the configurations so far are marked
abbrev pub invariant-loop-config : goal.invariant-loop-config
invariant-loop-config l = (length l.marks.items ≡ l.config-index) × ((n : ℕ) → n < l.config-index →
    (is_marked_at l.marks.items n ≡ true) ↔ IsFaultyAt l.fault l.configs n)
