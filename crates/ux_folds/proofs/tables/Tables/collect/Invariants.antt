use Rattle.ux_folds.proofs.PuttingLemmas.{Collecting}
use Rattle.ux_folds.proofs.tables.Tables.collect.Given as goal

-- so many have collected the text
abbrev pub invariant-loop-known : goal.invariant-loop-known
invariant-loop-known l = Collecting l.fn.self l.self l.known-items l.put l.number l.known-index
