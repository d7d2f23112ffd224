use Rattle.std.proofs.Common.{◌≡◌, ℕ, take}
use Rattle.std.specs.Prelude.{Contains}
use Rattle.ux_automaton.specs.declared.target.Target.{Target}
use Rattle.ux_automaton.proofs.AddingLemmas.{AddsSome}
use Rattle.ux_automaton.proofs.edges.add_ends.Given as goal

-- the stand was added at the ends so far
abbrev pub invariant-loop-end : goal.invariant-loop-end
invariant-loop-end l = AddsSome
    (λ (end : ℕ) (target : Target). target ≡ record { at = end; stand = l.stand })
    (Contains l.fn.targets.items) (Contains l.targets.items) (take l.end-index l.ends)
