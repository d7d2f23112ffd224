use Rattle.ux_tokens.specs.Numbers.{texts_in}
use Rattle.ux_boxes.proofs.MissingLemmas.{AreThereTo}
use Rattle.ux_boxes.proofs.missing.first_missing.Given as goal

-- the names so far are there
abbrev pub invariant-loop-name : goal.invariant-loop-name
invariant-loop-name l = AreThereTo (texts_in l.names) l.name-items l.name-index
