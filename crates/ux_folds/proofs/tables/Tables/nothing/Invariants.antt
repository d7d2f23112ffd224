use Rattle.ux_folds.proofs.VariablesLemmas.{Naming}
use Rattle.ux_folds.proofs.tables.Tables.nothing.Given as goal

-- nothing is known of so many variables
abbrev pub invariant-loop-name : goal.invariant-loop-name
invariant-loop-name l = Naming l.fn.self l.self l.names l.number l._name-index
