use Rattle.ux_status.proofs.telling.tell.Goals as goal

pub returns-in-Usage-clause-front : goal.returns-in-Usage-clause-front
returns-in-Usage-clause-front g c = rw c.in-Usage.is c.say.ensures.front

pub returns-in-ReadFault-clause-line : goal.returns-in-ReadFault-clause-line
returns-in-ReadFault-clause-line g c =
    let line = rw c.as_str-in-ReadFault.ensures at c.say-in-ReadFault.ensures.line in
    rw c.in-ReadFault.is line

pub returns-in-ReadFault-clause-front : goal.returns-in-ReadFault-clause-front
returns-in-ReadFault-clause-front g c =
    let front = rw c.as_str-in-ReadFault.ensures at c.say-in-ReadFault.ensures.front in
    rw c.in-ReadFault.is front
