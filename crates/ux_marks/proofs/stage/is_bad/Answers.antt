use Rattle.ux_marks.proofs.stage.is_bad.Goals as goal

pub returns-else-is_final : goal.returns-else-is_final
returns-else-is_final c = rw (c.in-Before.is, c.if-is_final.false) c.stands_wrong.ensures

pub returns-else-is_final-2 : goal.returns-else-is_final-2
returns-else-is_final-2 c = rw (c.in-Inside.is, c.if-is_final-2.false) c.opens_again.ensures

pub returns-in-Behind : goal.returns-in-Behind
returns-in-Behind c = rw c.in-Behind.is c.says_something.ensures
