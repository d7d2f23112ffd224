use Rattle.std.proofs.Common.{◌≤◌, ◌<◌, ◌-◌, ℕ, length, get_or}
use Rattle.ux_subsets.specs.declared.automaton.Link.{Link}
use Rattle.ux_subsets.proofs.departures.start_from.Given as goal

-- the departures passed leave smaller states
abbrev pub invariant-loop-start : goal.invariant-loop-start
invariant-loop-start l = l.fn.place ≤ length l.sorted → ((k : ℕ) (d : Link) → k < l.fn.place → (get_or l.sorted k d).from < l.state) →
    (l.start ≤ length l.sorted) × ((k : ℕ) (d : Link) → k < l.start → (get_or l.sorted k d).from < l.state)

abbrev pub decreases-loop-start : goal.decreases-loop-start
decreases-loop-start l = length l.sorted - l.start
