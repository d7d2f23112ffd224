use Rattle.std.proofs.Common.{take}
use Rattle.std.specs.Prelude.{Contains}
use Rattle.ux_closure.specs.declared.stand.Stand.{Stand}
use Rattle.ux_net.specs.declared.state.Edge.{Edge}
use Rattle.ux_automaton.specs.declared.target.Target.{Target}
use Rattle.ux_automaton.specs.Kept.{AreIndexed}
use Rattle.ux_walk.specs.Settings.{masked_setting}
use Rattle.ux_automaton.specs.Targets.{IsEdgeOf, IsTargetOver}
use Rattle.ux_automaton.proofs.AddingLemmas.{AddsSome}
use Rattle.ux_automaton.proofs.targets.targets_of.Given as goal

-- the indexes are right, and the targets of the stands so far were added
abbrev pub invariant-loop-stand : goal.invariant-loop-stand
invariant-loop-stand l = AreIndexed l.masked l.look_ups × AddsSome
    (λ (stand : Stand) (target : Target). (edge : Edge) × IsEdgeOf l.masked.net.now stand.here edge
    × IsTargetOver (masked_setting l.masked) l.at stand edge target)
    (λ target. ⊥) (Contains l.targets.items) (take l.stand-index l.stands)
