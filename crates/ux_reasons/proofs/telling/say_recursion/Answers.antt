use Rattle.ux_reasons.proofs.telling.say_recursion.Goals as goal

pub returns-clause-line : goal.returns-clause-line
returns-clause-line g c = rw c.as_str.ensures at c.say_text.ensures.line

pub returns-clause-front : goal.returns-clause-front
returns-clause-front g c = rw c.as_str.ensures at c.say_text.ensures.front
