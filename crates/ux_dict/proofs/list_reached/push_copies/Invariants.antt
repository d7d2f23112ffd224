use Rattle.std.proofs.Common.{◌≡◌, ◌++◌, take}
use Rattle.ux_dict.proofs.list_reached.push_copies.Given as goal

-- the entries so far stand behind
abbrev pub invariant-loop-entry : goal.invariant-loop-entry
invariant-loop-entry l = l.found.items ≡ l.initial.found.items ++ take l.entry-index l.entries
