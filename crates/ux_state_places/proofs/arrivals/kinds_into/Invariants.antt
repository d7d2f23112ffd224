use Rattle.std.proofs.Common.{◌≡◌, ◌↔◌, ◌⊎◌, ℕ, [], length}
use Rattle.std.specs.Prelude.{Contains}
use Rattle.ux_state_places.specs.declared.arrival.Kind.{Kind}
use Rattle.ux_state_places.specs.Arriving.{kinds_at, IsLedInto, IsOfOne}
use Rattle.ux_state_places.proofs.ArrivingLemmas.{IsOfOneBelow}
use Rattle.ux_state_places.proofs.arrivals.kinds_into.Given as goal

abbrev pub invariant-loop-state : goal.invariant-loop-state
invariant-loop-state l = record {
  len : length l.rows.items ≡ length l.states;
  kinds : (n : ℕ) (kind : Kind) → Contains (kinds_at l.rows.items n) kind ↔
      (Contains (kinds_at [] n) kind
      ⊎ IsOfOneBelow l.states (λ state. IsOfOne state.edges (IsLedInto n kind)) l.state-index);
}
