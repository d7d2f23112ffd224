use Rattle.std.proofs.Common.{List, sym, subst, true, false, ◌≡◌}
use Rattle.ux_net.specs.declared.label.Label.{Label}
use Rattle.ux_admission.specs.Ways.{IsOpening}
use Rattle.ux_state_places.proofs.MeetingLemmas.{none_next, none_there}
use Rattle.ux_state_places.proofs.meeting.has_opening.Goals as goal

pub loop-line-preserved : goal.loop-line-preserved
loop-line-preserved c =
    none_next c.args.lines.now c.loop-line.line-index c.line-item.result c.loop-line-test.true
    c.line-item.is (λ opens. absurd (let e : false ≡ true =
    c.if-is_opening.ensures.1 (subst (λ (l : List Label). IsOpening l) (sym c.as_slice.ensures)
    opens) in cc)) c.loop-line.invariant

pub returns : goal.returns
returns c = (
  λ t. absurd (let e : false ≡ true = t in cc),
  λ h. absurd (none_there c.args.lines.now c.loop-line.line-index c.loop-line-test.false
      c.loop-line.invariant h),
)
