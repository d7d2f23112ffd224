use Rattle.std.proofs.Common.{◌≡◌}
use Rattle.ux_parts.specs.Order.{all_entries}
use Rattle.ux_parts.proofs.ordering.entries.Given as goal

abbrev pub invariant-loop-before : goal.invariant-loop-before
invariant-loop-before l = l.entries.items ≡ all_entries l.net l.before
