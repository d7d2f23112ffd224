use Rattle.std.proofs.Common.{◌≡◌, ℕ, ◌+◌, ◌≤◌, [], get_or, length}
use Rattle.ux_inflect.specs.Cyclic.{IsCyclic}
use Rattle.ux_inflect.specs.Endings.{AreRanksOf}
use Rattle.ux_inflect.proofs.classes.how_words_end.Given as goal

-- the words of the graphs so far end
abbrev pub invariant-loop-before : goal.invariant-loop-before
invariant-loop-before l = (length l.states.items ≡ l.before + 1) × ((g : ℕ) → 1 ≤ g → g ≤ l.before →
    AreRanksOf l.net g (get_or l.states.items g []) × (IsCyclic l.net g → ⊥))
