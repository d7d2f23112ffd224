use Rattle.ux_tokens.specs.Numbers.{texts_in}
use Rattle.ux_walk.proofs.WordsLemmas.{IsTable}
use Rattle.ux_walk.proofs.words.texts_of.Given as goal

-- the table has the different texts so far
abbrev pub invariant-loop-i : goal.invariant-loop-i
invariant-loop-i l = IsTable l.text l.i (texts_in l.texts)
