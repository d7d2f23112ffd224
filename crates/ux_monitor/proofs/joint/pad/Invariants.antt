use Rattle.std.specs.Prelude.{◌≡◌, ℕ, Some, length, slice_get}
use Rattle.ux_monitor.proofs.joint.pad.Given as goal

abbrev pub invariant-loop-index : goal.invariant-loop-index
invariant-loop-index l = record {
  counted : length l.rows.items ≡ l.index;
  kept : (here number : ℕ) → slice_get l.rows.items here ≡ Some (Some number) →
      slice_get l.fn.rows.items here ≡ Some (Some number);
}
