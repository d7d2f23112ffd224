use Rattle.std.proofs.Common.{arith, List, subst}
use Rattle.std.proofs.lemmas.Grind.{common_steps}
use Rattle.ux_net.specs.declared.label.Label.{Label}
use Rattle.ux_admission.specs.Leading.{AreMarks}
use Rattle.ux_admission.proofs.LeadingLemmas.{marks_more, marks_all}
use Rattle.ux_admission.proofs.leading.marks_of.Goals as goal

pub loop-place-preserved : goal.loop-place-preserved
loop-place-preserved c =
    let len = c.loop-place.invariant.len in
    record {
      len = let more = c.in_ok-push.ensures.len in grind (arith, common_steps);
      marks = marks_more c.args.places.now c.loop-place.marks.items c.push.new.self.items
          c.marks_of_lines.result c.loop-place.place-index c.place-item.result
          c.loop-place-test.true c.place-item.is len c.in_ok-push.ensures.items
          (subst (λ (lines : List (List Label)). AreMarks lines c.marks_of_lines.result)
          c.as_slice.ensures c.marks_of_lines.ensures) c.loop-place.invariant.marks;
    }

pub returns-clause-marks : goal.returns-clause-marks
returns-clause-marks c =
    marks_all c.args.places.now c.loop-place.marks.items c.loop-place.place-index
    c.loop-place-test.false c.loop-place.invariant.len c.loop-place.invariant.marks
