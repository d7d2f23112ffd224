use Rattle.std.proofs.Common.{◌≡◌, ◌<◌, ℕ, take}
use Rattle.std.specs.Prelude.{Contains}
use Rattle.ux_automaton.specs.declared.target.Target.{Target}
use Rattle.ux_automaton.proofs.AddingLemmas.{AddsSome}
use Rattle.ux_automaton.proofs.targets.ends_after.Given as goal

-- the later positions of the targets so far are in the set
abbrev pub invariant-loop-target : goal.invariant-loop-target
invariant-loop-target l = AddsSome
    (λ (target : Target) (end : ℕ). (l.after < target.at) × (end ≡ target.at))
    (λ end. ⊥) (Contains l.ends.keys) (take l.target-index l.targets)
