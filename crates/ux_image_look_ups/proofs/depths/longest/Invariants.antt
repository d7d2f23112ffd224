use Rattle.std.proofs.Common.{◌≡◌, ◌<◌, ◌≤◌, ℕ, get_or, length}
use Rattle.ux_image_look_ups.specs.Longest.{longest_in}
use Rattle.ux_image_look_ups.specs.Ways.{forms_at}
use Rattle.ux_image_look_ups.proofs.depths.longest.Given as goal

-- the depths of the states so far
abbrev pub invariant-loop-number : goal.invariant-loop-number
invariant-loop-number l = record {
  many : length l.depths.items ≡ l.number;
  each : (k : ℕ) → k < l.number → get_or l.depths.items k 0 ≡ longest_in (forms_at l.states k);
  low : (k : ℕ) → k < l.number → get_or l.depths.items k 0 ≤ k;
}
