use Rattle.std.proofs.Common.{take}
use Rattle.ux_inflect.specs.Ways.{lists_of, IsTaken}
use Rattle.ux_inflect.proofs.least.take_turn.Given as goal

-- the nodes so far have their texts
abbrev pub invariant-loop-node : goal.invariant-loop-node
invariant-loop-node l = IsTaken (lists_of l.links) l.wanted (take l.node-index l.nodes)
    l.fn.best.items l.best.items
