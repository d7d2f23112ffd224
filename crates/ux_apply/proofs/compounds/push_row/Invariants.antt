use Rattle.std.proofs.Common.{◌≡◌, ◌++◌, map}
use Rattle.ux_apply.proofs.compounds.push_row.Given as goal

-- the entries so far stand behind
abbrev pub invariant-loop-entry : goal.invariant-loop-entry
invariant-loop-entry l =
    l.row.items ≡ l.fn.row.items ++ map (λ entry. (l.last, entry)) l.yielded
