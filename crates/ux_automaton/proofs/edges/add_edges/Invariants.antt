use Rattle.std.proofs.Common.{take}
use Rattle.std.specs.Prelude.{Contains}
use Rattle.ux_walk.specs.Settings.{masked_setting}
use Rattle.ux_automaton.specs.Targets.{IsTargetOver}
use Rattle.ux_automaton.proofs.AddingLemmas.{AddsSome}
use Rattle.ux_automaton.proofs.edges.add_edges.Given as goal

-- the targets over the edges so far were added
abbrev pub invariant-loop-edge : goal.invariant-loop-edge
invariant-loop-edge l = AddsSome (IsTargetOver (masked_setting l.masked) l.at l.stand)
    (Contains l.fn.targets.items) (Contains l.targets.items) (take l.edge-index l.edges)
