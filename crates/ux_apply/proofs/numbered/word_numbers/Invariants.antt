use Rattle.std.proofs.Common.{take}
use Rattle.std.specs.List.{AllZip}
use Rattle.ux_apply.specs.Kept.{IsWordNumber}
use Rattle.ux_apply.proofs.numbered.word_numbers.Given as goal

-- the numbers are those of the words so far
abbrev pub invariant-loop-place : goal.invariant-loop-place
invariant-loop-place l = AllZip (IsWordNumber l.text) (take l.place l.text) l.words
