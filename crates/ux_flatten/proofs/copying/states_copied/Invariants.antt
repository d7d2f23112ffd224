use Rattle.std.proofs.Common.{◌≡◌, ◌+◌, ◌++◌, drop, length}
use Rattle.ux_flatten.specs.Copies.{edges_of}
use Rattle.ux_flatten.specs.Making.{pending_in, states_in}
use Rattle.ux_flatten.proofs.copying.states_copied.Given as goal

-- what is made so far, with what the states that are left give
abbrev pub invariant-loop-state : goal.invariant-loop-state
invariant-loop-state l = record {
  states : l.states.items ++ states_in l.source l.copy l.next (drop l.state-index l.from)
      ≡ l.initial.states.items
      ++ states_in l.source l.copy (l.copy.first + length l.from) l.from;
  inner : l.inner.items ++ pending_in l.source l.copy l.next (edges_of (drop l.state-index l.from))
      ≡ pending_in l.source l.copy (l.copy.first + length l.from) (edges_of l.from);
}
