use Rattle.std.proofs.Common.{◌≡◌, ◌↔◌, ◌⊎◌, ℕ, length}
use Rattle.std.specs.Prelude.{Contains}
use Rattle.ux_state_places.specs.declared.arrival.Kind.{Kind}
use Rattle.ux_state_places.specs.Arriving.{kinds_at, IsLedInto}
use Rattle.ux_state_places.proofs.ArrivingLemmas.{IsOfOneBelow}
use Rattle.ux_state_places.proofs.arrivals.put_kinds.Given as goal

abbrev pub invariant-loop-edge : goal.invariant-loop-edge
invariant-loop-edge l = record {
  len : length l.rows.items ≡ length l.fn.rows.items;
  kinds : (n : ℕ) (kind : Kind) → Contains (kinds_at l.rows.items n) kind ↔
      (Contains (kinds_at l.fn.rows.items n) kind
      ⊎ IsOfOneBelow l.edges (IsLedInto n kind) l.edge-index);
}
