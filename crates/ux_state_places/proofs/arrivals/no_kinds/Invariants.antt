use Rattle.std.proofs.Common.{◌≡◌, ℕ, [], length}
use Rattle.ux_state_places.specs.Arriving.{kinds_at}
use Rattle.ux_state_places.proofs.arrivals.no_kinds.Given as goal

abbrev pub invariant-loop : goal.invariant-loop
invariant-loop l = record {
  empty : (n : ℕ) → kinds_at l.rows.items n ≡ [];
  len : length l.rows.items ≡ l.counter;
}
