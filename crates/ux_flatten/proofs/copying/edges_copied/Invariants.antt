use Rattle.std.proofs.Common.{◌≡◌, ◌+◌, ◌++◌, drop, sum_by}
use Rattle.ux_flatten.specs.Making.{edges_in, room_in, pending_in}
use Rattle.ux_flatten.proofs.copying.edges_copied.Given as goal

-- what is made so far, with what the edges that are left give
abbrev pub invariant-loop-edge : goal.invariant-loop-edge
invariant-loop-edge l = record {
  edges : l.made.items ++ edges_in l.source l.copy l.next (drop l.edge-index l.edges)
      ≡ edges_in l.source l.copy l.initial.next l.edges;
  next : l.next + sum_by (room_in l.source l.copy) (drop l.edge-index l.edges)
      ≡ l.initial.next + sum_by (room_in l.source l.copy) l.edges;
  inner : l.inner.items ++ pending_in l.source l.copy l.next (drop l.edge-index l.edges)
      ≡ l.initial.inner.items ++ pending_in l.source l.copy l.initial.next l.edges;
}
