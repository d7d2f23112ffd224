use Rattle.std.proofs.Common.{arith}
use Rattle.std.proofs.lemmas.Bool.{false≢true}
use Rattle.ux_image.proofs.UnchangedLemmas.{are_these, these_are_many, these_are_unchanged}
use Rattle.ux_image.proofs.comparing.are_unchanged.Goals as goal

pub returns-in_default : goal.returns-in_default
returns-in_default c = (
  λ h. absurd (false≢true h),
  λ same.
      let many = these_are_many c.args.pairs.now c.args.form.now same in
      let none = c.in_default.ensures.cases in
      absurd (omega (arith, many, none)),
)

pub returns-then-later-count_separators : goal.returns-then-later-count_separators
returns-then-later-count_separators c = (
  λ h. absurd (false≢true h),
  λ same.
      let many = these_are_many c.args.pairs.now c.args.form.now same in
      let later = c.in-Some.ensures.cases.1 in
      let other = c.if-later-count_separators.true in
      let count = c.count_separators.ensures in
      absurd (omega (arith, many, later, other, count)),
)

pub returns : goal.returns
returns c =
    let later = c.in-Some.ensures.cases.1 in
    let same = c.if-later-count_separators.false in
    let count = c.count_separators.ensures in (
      λ all. are_these c.args.pairs.now c.args.form.now (c.change_nothing.ensures.0 all)
          (omega (arith, later, same, count)),
      λ these. c.change_nothing.ensures.1
          (these_are_unchanged c.args.pairs.now c.args.form.now these),
    )
