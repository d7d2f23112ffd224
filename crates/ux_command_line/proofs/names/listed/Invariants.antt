use Rattle.std.proofs.Common.{◌≡◌, ◌++◌, length}
use Rattle.std.specs.Vec.Iter.{into_iter_items}
use Rattle.ux_command_line.proofs.names.listed.Given as goal

-- the names so far, and then those that are left, are all of them
abbrev pub invariant-loop-name : goal.invariant-loop-name
invariant-loop-name l = into_iter_items l.initial.names ≡ l.list.items ++ into_iter_items l.names

abbrev pub decreases-loop-name : goal.decreases-loop-name
decreases-loop-name l = length (into_iter_items l.names)
