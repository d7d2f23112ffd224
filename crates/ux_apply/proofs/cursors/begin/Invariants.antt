use Rattle.std.proofs.Common.{[], take}
use Rattle.std.specs.List.{AllZip}
use Rattle.ux_alphabet.specs.Letters.{Letters}
use Rattle.ux_apply.specs.Applying.{contents}
use Rattle.ux_apply.specs.Cursors.{IsCursor}
use Rattle.ux_apply.proofs.cursors.begin.Given as goal

-- the empty text leads to the cursors so far
abbrev pub invariant-loop-priority : goal.invariant-loop-priority
invariant-loop-priority g l = (alphabet : Letters) → AllZip (IsCursor alphabet [])
    (contents g.L.Lexicon.content (take l.priority-index l.dics)) l.cursors.items
