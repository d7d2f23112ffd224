use Rattle.ux_apply.specs.Kept.{AreRowsUpTo, IsOwnRow}
use Rattle.ux_apply.proofs.tagged.tagged.Given as goal

-- the rows are those of the tokens so far
abbrev pub invariant-loop-place : goal.invariant-loop-place
invariant-loop-place l = AreRowsUpTo (IsOwnRow l.alphabet l.text) l.place l.rows
