use Rattle.std.proofs.Common.{◌≡◌, get_or, length}
use Rattle.ux_admission.specs.Finding.{Finds, AreRowsOf, pair_of}
use Rattle.ux_admission.specs.Gains.{SoBelow}
use Rattle.ux_admission.proofs.closers.add_each.Given as goal

abbrev pub invariant-loop-source : goal.invariant-loop-source
invariant-loop-source l = record {
  len : length l.rows.items ≡ length l.fn.rows.items;
  rows : AreRowsOf l.found.keys l.rows.items;
  finds : Finds l.fn.found.keys l.found.keys
      (SoBelow l.source-index (λ k p. pair_of (get_or l.sources k 0) l.closer ≡ p));
}
