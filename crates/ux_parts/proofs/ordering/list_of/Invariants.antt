use Rattle.std.proofs.Common.{◌≡◌, map, take}
use Rattle.ux_parts.specs.Order.{part_of}
use Rattle.ux_parts.proofs.ordering.list_of.Given as goal

abbrev pub invariant-loop-entry : goal.invariant-loop-entry
invariant-loop-entry l = l.list.items ≡ map (part_of l.net) (take l.entry-index l.order)
