use Rattle.ux_admission.proofs.LeadingLemmas.{leading_inside}
use Rattle.ux_admission.proofs.EndMarksLemmas.{least_bad}
use Rattle.ux_admission.proofs.context_close.first_bad.Goals as goal

pub end_marks-requires-clause-inside : goal.end_marks-requires-clause-inside
end_marks-requires-clause-inside c =
    leading_inside c.args.places.now c.in_ok-leading.leading c.in_ok-leading.ensures

pub returns : goal.returns
returns c =
    let leading = c.in_ok-leading.leading in (
      leading,
      c.in_ok-leading.ensures,
      least_bad leading c.args.rows.now (c.requires.rows leading c.in_ok-leading.ensures)
          c.first_unclosed.result c.first_unopened.result c.lesser.result
          c.first_unclosed.ensures c.first_unopened.ensures c.lesser.ensures,
    )
