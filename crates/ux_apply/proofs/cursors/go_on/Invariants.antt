use Rattle.std.proofs.Common.{ℕ, List, ◌++◌, take}
use Rattle.std.specs.List.{AllZip}
use Rattle.ux_dela.specs.declared.entry.Entry.{Entry}
use Rattle.ux_apply.specs.declared.priority.Priority.{Priority}
use Rattle.ux_apply.specs.Cursors.{IsCursor}
use Rattle.ux_apply.proofs.cursors.go_on.Given as goal

-- the longer text leads to the cursors so far
abbrev pub invariant-loop-cursor : goal.invariant-loop-cursor
invariant-loop-cursor l = (front : List ℕ) (dics : List (Priority × List Entry)) →
    AllZip (IsCursor l.alphabet front) dics (take l.cursor-index l.cursors) →
    AllZip (IsCursor l.alphabet (front ++ l.text)) dics l.next.items
