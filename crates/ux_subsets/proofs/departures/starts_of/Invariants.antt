use Rattle.std.proofs.Common.{◌≤◌, ◌<◌, ℕ, length, get_or}
use Rattle.std.specs.List.Sorted.{IsNonDecreasingBy}
use Rattle.ux_subsets.specs.declared.automaton.Link.{Link}
use Rattle.ux_subsets.specs.Departures.{AreStarts}
use Rattle.ux_subsets.proofs.departures.starts_of.Given as goal

-- the states so far have their starts
abbrev pub invariant-loop-state : goal.invariant-loop-state
invariant-loop-state l = IsNonDecreasingBy (λ (d : Link). d.from) l.sorted → record {
  starts : AreStarts l.sorted l.state l.starts.items;
  within : l.place ≤ length l.sorted;
  before : (k : ℕ) (d : Link) → k < l.place → (get_or l.sorted k d).from < l.state;
}
