use Rattle.std.proofs.Common.{rules}
use Rattle.ux_reasons.proofs.telling.say_at.Goals as goal

-- by name, so that a wrong body is refused at once
pub returns-clause-line : goal.returns-clause-line
returns-clause-line g c = search rules

pub returns-clause-front : goal.returns-clause-front
returns-clause-front g c = search rules
