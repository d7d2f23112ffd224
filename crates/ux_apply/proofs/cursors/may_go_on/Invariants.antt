use Rattle.std.proofs.Common.{ℕ, List, take}
use Rattle.std.specs.List.{AllZip}
use Rattle.ux_alphabet.specs.Letters.{Letters}
use Rattle.ux_dela.specs.declared.entry.Entry.{Entry}
use Rattle.ux_apply.specs.declared.priority.Priority.{Priority}
use Rattle.ux_apply.specs.Cursors.{IsCursor}
use Rattle.ux_apply.specs.Kept.{NoneBegins}
use Rattle.ux_apply.proofs.cursors.may_go_on.Given as goal

-- no dictionary so far has such a form
abbrev pub invariant-loop-cursor : goal.invariant-loop-cursor
invariant-loop-cursor l = (alphabet : Letters) (text : List ℕ)
    (dics : List (Priority × List Entry)) →
    AllZip (IsCursor alphabet text) dics (take l.cursor-index l.cursors) →
    NoneBegins alphabet dics text
