use Rattle.std.proofs.Common.{◌≡◌, get_or, length}
use Rattle.std.specs.Prelude.{Contains}
use Rattle.ux_admission.specs.Finding.{Finds, AreRowsOf}
use Rattle.ux_admission.specs.Gains.{SoBelow}
use Rattle.ux_admission.proofs.closers.add_all.Given as goal

abbrev pub invariant-loop-closer : goal.invariant-loop-closer
invariant-loop-closer l = record {
  len : length l.rows.items ≡ length l.fn.rows.items;
  rows : AreRowsOf l.found.keys l.rows.items;
  finds : Finds l.fn.found.keys l.found.keys (SoBelow l.closer-index
      (λ k p. Contains l.sources p.place × (p.closer ≡ get_or l.closers k 0)));
}
