use Rattle.ux_admission.specs.Gains.{Gains, SoBelow, SoAt}
use Rattle.ux_admission.specs.Ways.{IsJump}
use Rattle.ux_admission.proofs.ways.push_jumps.Given as goal

abbrev pub invariant-loop-closer : goal.invariant-loop-closer
invariant-loop-closer l = Gains l.fn.ways.items l.ways.items
    (SoBelow l.closer-index (SoAt l.closers (IsJump l.step)))
