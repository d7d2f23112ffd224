use Rattle.std.proofs.Common.{◌≡◌, ◌++◌, List}
use Rattle.ux_dela.specs.declared.entry.Entry.{Entry}
use Rattle.ux_dict.proofs.RunOnceLemmas.{IsOnceTo}
use Rattle.ux_dict.proofs.sorting.once_by_form.Given as goal

-- the entries so far, where they are a front of all
abbrev pub invariant-loop-entry : goal.invariant-loop-entry
invariant-loop-entry l = (rest : List Entry) → l.fn.sorted.items ≡ l.yielded ++ rest →
    IsOnceTo l.yielded l.once.items l.run.items
