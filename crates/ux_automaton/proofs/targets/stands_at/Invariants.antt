use Rattle.std.proofs.Common.{◌≡◌, take}
use Rattle.std.specs.Prelude.{Contains}
use Rattle.ux_closure.specs.declared.stand.Stand.{Stand}
use Rattle.ux_automaton.specs.declared.target.Target.{Target}
use Rattle.ux_automaton.proofs.AddingLemmas.{AddsSome}
use Rattle.ux_automaton.proofs.targets.stands_at.Given as goal

-- the stands of the targets so far are in the set
abbrev pub invariant-loop-target : goal.invariant-loop-target
invariant-loop-target l = AddsSome
    (λ (target : Target) (stand : Stand). (target.at ≡ l.at) × (stand ≡ target.stand))
    (λ stand. ⊥) (Contains l.stands.keys) (take l.target-index l.targets)
