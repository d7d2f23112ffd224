use Rattle.std.proofs.Common.{arith}
use Rattle.std.proofs.lemmas.Grind.{common_steps}
use Rattle.ux_reasons.proofs.telling.say_grf_error.Goals as goal

pub returns-in-NoHeader-clause-later : goal.returns-in-NoHeader-clause-later
returns-in-NoHeader-clause-later g c = grind (arith, common_steps)

pub returns-in-NoHeader-clause-cause : goal.returns-in-NoHeader-clause-cause
returns-in-NoHeader-clause-cause g c = grind (arith, common_steps)

pub returns-in-NoHeader-clause-line : goal.returns-in-NoHeader-clause-line
returns-in-NoHeader-clause-line g c = grind (arith, common_steps)

pub returns-in-NoHeader-clause-front : goal.returns-in-NoHeader-clause-front
returns-in-NoHeader-clause-front g c = grind (arith, common_steps)

pub returns-in-BadCount-clause-later : goal.returns-in-BadCount-clause-later
returns-in-BadCount-clause-later g c = grind (arith, common_steps)

pub returns-in-BadCount-clause-cause : goal.returns-in-BadCount-clause-cause
returns-in-BadCount-clause-cause g c = grind (arith, common_steps)

pub returns-in-BadCount-clause-line : goal.returns-in-BadCount-clause-line
returns-in-BadCount-clause-line g c = grind (arith, common_steps)

pub returns-in-BadCount-clause-front : goal.returns-in-BadCount-clause-front
returns-in-BadCount-clause-front g c = grind (arith, common_steps)

pub returns-in-BadBoxLine-clause-later : goal.returns-in-BadBoxLine-clause-later
returns-in-BadBoxLine-clause-later g c = grind (arith, common_steps)

pub returns-in-BadBoxLine-clause-cause : goal.returns-in-BadBoxLine-clause-cause
returns-in-BadBoxLine-clause-cause g c = grind (arith, common_steps)

pub returns-in-BadBoxLine-clause-line : goal.returns-in-BadBoxLine-clause-line
returns-in-BadBoxLine-clause-line g c = grind (arith, common_steps)

pub returns-in-BadBoxLine-clause-front : goal.returns-in-BadBoxLine-clause-front
returns-in-BadBoxLine-clause-front g c = grind (arith, common_steps)

pub returns-in-BadTarget-clause-later : goal.returns-in-BadTarget-clause-later
returns-in-BadTarget-clause-later g c = grind (arith, common_steps)

pub returns-in-BadTarget-clause-cause : goal.returns-in-BadTarget-clause-cause
returns-in-BadTarget-clause-cause g c = grind (arith, common_steps)

pub returns-in-BadContent-clause-later : goal.returns-in-BadContent-clause-later
returns-in-BadContent-clause-later g c = grind (arith, common_steps)

pub returns-in-BadContent-clause-cause : goal.returns-in-BadContent-clause-cause
returns-in-BadContent-clause-cause g c = grind (arith, common_steps)

pub returns-in-BadContent-clause-line : goal.returns-in-BadContent-clause-line
returns-in-BadContent-clause-line g c = grind (arith, common_steps)

pub returns-in-NoMemory-clause-later : goal.returns-in-NoMemory-clause-later
returns-in-NoMemory-clause-later g c = grind (arith, common_steps)

pub returns-in-NoMemory-clause-cause : goal.returns-in-NoMemory-clause-cause
returns-in-NoMemory-clause-cause g c = grind (arith, common_steps)

pub returns-in-NoMemory-clause-line : goal.returns-in-NoMemory-clause-line
returns-in-NoMemory-clause-line g c = grind (arith, common_steps)

pub returns-in-NoMemory-clause-front : goal.returns-in-NoMemory-clause-front
returns-in-NoMemory-clause-front g c = grind (arith, common_steps)
