use Rattle.ux_reasons.proofs.telling.say_inflect_error.Goals as goal

pub returns-in-Cyclic-clause-line : goal.returns-in-Cyclic-clause-line
returns-in-Cyclic-clause-line g c = rw c.in-Cyclic.is c.say_named.ensures.line

pub returns-in-Cyclic-clause-front : goal.returns-in-Cyclic-clause-front
returns-in-Cyclic-clause-front g c = rw c.in-Cyclic.is c.say_named.ensures.front

pub returns-in-StackEnd-clause-line : goal.returns-in-StackEnd-clause-line
returns-in-StackEnd-clause-line g c = rw c.in-StackEnd.is c.say_named-in-StackEnd.ensures.line

pub returns-in-StackEnd-clause-front : goal.returns-in-StackEnd-clause-front
returns-in-StackEnd-clause-front g c = rw c.in-StackEnd.is c.say_named-in-StackEnd.ensures.front

pub returns-in-BadCodes-clause-line : goal.returns-in-BadCodes-clause-line
returns-in-BadCodes-clause-line g c = rw c.in-BadCodes.is c.say_named-in-BadCodes.ensures.line

pub returns-in-BadCodes-clause-front : goal.returns-in-BadCodes-clause-front
returns-in-BadCodes-clause-front g c = rw c.in-BadCodes.is c.say_named-in-BadCodes.ensures.front
