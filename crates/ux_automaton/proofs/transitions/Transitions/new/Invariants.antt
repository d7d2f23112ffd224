use Rattle.std.proofs.Common.{ℕ}
use Rattle.ux_automaton.specs.declared.transitions.Transition.{Transition}
use Rattle.ux_automaton.specs.Caches.{HasValue}
use Rattle.ux_automaton.proofs.transitions.Transitions.new.Given as goal

-- no place has a transition
abbrev pub invariant-loop : goal.invariant-loop
invariant-loop l = (i : ℕ) (t : Transition) → HasValue l.cells.items i t → ⊥
