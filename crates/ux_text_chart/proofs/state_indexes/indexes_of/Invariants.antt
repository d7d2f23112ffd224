use Rattle.ux_tokens.specs.Numbers.{different_texts}
use Rattle.ux_walk.specs.LookUps.{AreSound}
use Rattle.ux_text_chart.proofs.state_indexes.indexes_of.Given as goal

-- the indexes so far are the net's
abbrev pub invariant-loop-before : goal.invariant-loop-before
invariant-loop-before l = AreSound l.alphabet l.net (different_texts l.text) l.look_ups
