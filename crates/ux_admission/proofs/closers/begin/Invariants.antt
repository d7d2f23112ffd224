use Rattle.std.proofs.Common.{◌≡◌, length}
use Rattle.ux_admission.specs.Finding.{Finds, AreRowsOf}
use Rattle.ux_admission.specs.Gains.{SoBelow}
use Rattle.ux_admission.specs.Leading.{Leads}
use Rattle.ux_net.specs.Words.{closes}
use Rattle.ux_admission.proofs.closers.begin.Given as goal

abbrev pub invariant-loop-place : goal.invariant-loop-place
invariant-loop-place l = record {
  len : length l.rows.items ≡ length l.fn.rows.items;
  rows : AreRowsOf l.found.keys l.rows.items;
  finds : Finds l.fn.found.keys l.found.keys
      (SoBelow l.place (λ c p. Leads l.leading closes p.place c × (p.closer ≡ c)));
}
