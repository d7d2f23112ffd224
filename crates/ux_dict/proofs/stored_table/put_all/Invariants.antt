use Rattle.std.proofs.Common.{◌≡◌, ◌++◌}
use Rattle.ux_dict.proofs.stored_table.put_all.Given as goal

-- the entries so far are kept behind the others
abbrev pub invariant-loop-entry : goal.invariant-loop-entry
invariant-loop-entry l = l.kept.items ≡ l.initial.kept.items ++ l.yielded
