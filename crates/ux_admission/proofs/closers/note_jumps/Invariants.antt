use Rattle.std.proofs.Common.{◌≡◌, ℕ, ◌⊎◌, ◌↔◌, get_or, length}
use Rattle.std.specs.Prelude.{Contains}
use Rattle.ux_digraph.specs.Paths.{row_of}
use Rattle.ux_admission.specs.Gains.{SoBelow}
use Rattle.ux_admission.proofs.closers.note_jumps.Given as goal

abbrev pub invariant-loop-source : goal.invariant-loop-source
invariant-loop-source l = record {
  len : length l.jumps.items ≡ length l.fn.jumps.items;
  jumps : (a c : ℕ) → Contains (row_of l.jumps.items c) a ↔
      (Contains (row_of l.fn.jumps.items c) a
      ⊎ ((c ≡ l.to) × SoBelow l.source-index (λ j x. get_or l.sources j 0 ≡ x) a));
}
