use Rattle.std.proofs.Common.{◌≡◌}
use Rattle.ux_text_automaton.specs.Candidates.{AreStates}
use Rattle.ux_text_automaton.specs.Runs.{state_at}
use Rattle.ux_text_automaton.proofs.states.states_of.Given as goal

-- the states before the tokens so far, and the one behind them
abbrev pub invariant-loop-place : goal.invariant-loop-place
invariant-loop-place l = record {
  filled : AreStates l.text l.fn.run.first l.place l.states.items;
  state : l.state ≡ state_at l.text l.fn.run.first l.place;
}
