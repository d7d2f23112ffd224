use Rattle.ux_tokens.specs.Numbers.{different_texts}
use Rattle.ux_walk.specs.LookUps.{AreSound}
use Rattle.ux_text_chart.proofs.state_indexes.meet_graph.Given as goal

-- the indexes so far are the net's
abbrev pub invariant-loop-state : goal.invariant-loop-state
invariant-loop-state l = AreSound l.alphabet l.net (different_texts l.text) l.look_ups
