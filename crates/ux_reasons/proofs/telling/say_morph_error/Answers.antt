use Rattle.ux_reasons.proofs.telling.say_morph_error.Goals as goal

pub returns-in-BadOutput-clause-line : goal.returns-in-BadOutput-clause-line
returns-in-BadOutput-clause-line g c = rw c.in-BadOutput.is c.say_named.ensures.line

pub returns-in-BadOutput-clause-front : goal.returns-in-BadOutput-clause-front
returns-in-BadOutput-clause-front g c = rw c.in-BadOutput.is c.say_named.ensures.front

pub returns-in-BadMarks-clause-line : goal.returns-in-BadMarks-clause-line
returns-in-BadMarks-clause-line g c = rw c.in-BadMarks.is c.say_node.ensures.line

pub returns-in-BadMarks-clause-front : goal.returns-in-BadMarks-clause-front
returns-in-BadMarks-clause-front g c = rw c.in-BadMarks.is c.say_node.ensures.front
