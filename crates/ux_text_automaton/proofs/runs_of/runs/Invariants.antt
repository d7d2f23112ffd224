use Rattle.std.proofs.Common.{◌≤◌, length}
use Rattle.ux_text_automaton.specs.Candidates.{AreRunsBefore, HasBegun}
use Rattle.ux_text_automaton.proofs.runs_of.runs.Given as goal

-- the runs before the one that has begun
abbrev pub invariant-loop-place : goal.invariant-loop-place
invariant-loop-place l = record {
  has : HasBegun l.text l.place l.begun;
  runs : AreRunsBefore l.text l.begun.first l.runs.items;
  few : length l.runs.items ≤ l.place;
}
