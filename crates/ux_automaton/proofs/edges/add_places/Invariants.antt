use Rattle.std.proofs.Common.{take}
use Rattle.std.specs.Prelude.{Contains}
use Rattle.ux_walk.specs.Settings.{masked_setting}
use Rattle.ux_automaton.specs.Targets.{IsTargetAt}
use Rattle.ux_automaton.proofs.AddingLemmas.{AddsSome}
use Rattle.ux_automaton.proofs.edges.add_places.Given as goal

-- the targets over the edges at the places so far were added
abbrev pub invariant-loop-place : goal.invariant-loop-place
invariant-loop-place l = AddsSome (IsTargetAt (masked_setting l.masked) l.at l.stand l.edges)
    (Contains l.fn.targets.items) (Contains l.targets.items) (take l.place-index l.places)
