use Rattle.std.proofs.Common.{◌≡◌, ℕ, suc, ◌+◌, ◌<◌, ◌≤◌, length, get_or}
use Rattle.ux_boxes.specs.Numbers.{places_before}
use Rattle.ux_boxes.proofs.offsets.offsets_of.Given as goal

abbrev pub invariant-loop-places : goal.invariant-loop-places
invariant-loop-places l = record {
  len : length l.offsets.items ≡ l.places-index + 1;
  total : l.total ≡ places_before l.graphs (suc l.places-index);
  few : l.total < 18446744073709551616;
  offset : (k : ℕ) → k ≤ l.places-index →
      get_or l.offsets.items k 0 ≡ places_before l.graphs (suc k);
}
