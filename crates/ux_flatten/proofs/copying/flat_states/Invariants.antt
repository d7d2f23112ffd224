use Rattle.std.proofs.Common.{◌≡◌, ◌++◌, Contains, length}
use Rattle.std.specs.Prelude.{None}
use Rattle.ux_flatten.specs.declared.pending.Pending.{Pending}
use Rattle.ux_flatten.specs.Copies.{copy}
use Rattle.ux_flatten.specs.Making.{has_word, states_left, IsToMake}
use Rattle.ux_flatten.proofs.copying.flat_states.Given as goal

-- what is made so far, with what the copies on the stack give
abbrev pub invariant-loop-copy : goal.invariant-loop-copy
invariant-loop-copy l = record {
  whole : l.states.items ++ states_left l.source l.pending.items
      ≡ copy l.source.graphs.items (has_word l.source) l.depth 1 0 None;
  to_make : (made : Pending) → Contains l.pending.items made → IsToMake l.source l.depth made;
}

abbrev pub decreases-loop-copy : goal.decreases-loop-copy
decreases-loop-copy l = length (states_left l.source l.pending.items)
