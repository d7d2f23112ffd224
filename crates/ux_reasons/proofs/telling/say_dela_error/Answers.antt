use Rattle.ux_reasons.proofs.telling.say_dela_error.Goals as goal

pub returns-in-NoComma-clause-line : goal.returns-in-NoComma-clause-line
returns-in-NoComma-clause-line g c = rw c.in-NoComma.is c.say_place.ensures.line

pub returns-in-NoComma-clause-front : goal.returns-in-NoComma-clause-front
returns-in-NoComma-clause-front g c = rw c.in-NoComma.is c.say_place.ensures.front

pub returns-in-NoDot-clause-line : goal.returns-in-NoDot-clause-line
returns-in-NoDot-clause-line g c = rw c.in-NoDot.is c.say_place-in-NoDot.ensures.line

pub returns-in-NoDot-clause-front : goal.returns-in-NoDot-clause-front
returns-in-NoDot-clause-front g c = rw c.in-NoDot.is c.say_place-in-NoDot.ensures.front

pub returns-in-BadClass-clause-line : goal.returns-in-BadClass-clause-line
returns-in-BadClass-clause-line g c = rw c.in-BadClass.is c.say_place-in-BadClass.ensures.line

pub returns-in-BadClass-clause-front : goal.returns-in-BadClass-clause-front
returns-in-BadClass-clause-front g c = rw c.in-BadClass.is c.say_place-in-BadClass.ensures.front
