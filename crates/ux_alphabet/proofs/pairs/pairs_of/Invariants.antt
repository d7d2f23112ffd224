use Rattle.std.proofs.Common.{take}
use Rattle.ux_alphabet.specs.Tables.{ArePairsOf}
use Rattle.ux_alphabet.proofs.pairs.pairs_of.Given as goal

abbrev pub invariant-loop-line : goal.invariant-loop-line
invariant-loop-line l = ArePairsOf (take l.line-index l.lines) l.pairs.keys
