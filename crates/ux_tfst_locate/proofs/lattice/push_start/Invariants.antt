use Rattle.std.proofs.Common.{◌+◌, ◌-◌, length}
use Rattle.ux_tfst_locate.proofs.ArcsLemmas.{IsStartedTo}
use Rattle.ux_tfst_locate.proofs.lattice.push_start.Given as goal

abbrev pub invariant-positions : goal.invariant-positions
invariant-positions l = IsStartedTo l.fn.starts.items l.position l.place l.starts.items

abbrev pub decreases-positions : goal.decreases-positions
decreases-positions l = l.position + 1 - length l.starts.items
