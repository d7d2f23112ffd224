use Rattle.std.proofs.Common.{◌≡◌}
use Rattle.indexmap.specs.IndexSet.{insert_all}
use Rattle.ux_dict.specs.Equal.{entry_eq}
use Rattle.ux_dict.proofs.stored_table.insert_each.Given as goal

-- the entries so far are in the table
abbrev pub invariant-loop-entry : goal.invariant-loop-entry
invariant-loop-entry l = l.table.keys ≡ insert_all entry_eq l.initial.table.keys l.yielded
