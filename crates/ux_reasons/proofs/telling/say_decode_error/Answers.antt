use Rattle.std.proofs.Common.{arith}
use Rattle.std.proofs.lemmas.Grind.{common_steps}
use Rattle.ux_reasons.proofs.telling.say_decode_error.Goals as goal

pub returns-in-LoneSurrogate-clause-line : goal.returns-in-LoneSurrogate-clause-line
returns-in-LoneSurrogate-clause-line g c =
    rw c.in-LoneSurrogate.is c.say_number-in-LoneSurrogate.ensures.line

pub returns-in-LoneSurrogate-clause-front : goal.returns-in-LoneSurrogate-clause-front
returns-in-LoneSurrogate-clause-front g c =
    rw c.in-LoneSurrogate.is c.say_number-in-LoneSurrogate.ensures.front

pub returns-in-BadUtf8-clause-later : goal.returns-in-BadUtf8-clause-later
returns-in-BadUtf8-clause-later g c = grind (arith, common_steps)

pub returns-in-BadUtf8-clause-cause : goal.returns-in-BadUtf8-clause-cause
returns-in-BadUtf8-clause-cause g c = grind (arith, common_steps)

pub returns-in-LoneSurrogate-clause-later : goal.returns-in-LoneSurrogate-clause-later
returns-in-LoneSurrogate-clause-later g c = grind (arith, common_steps)

pub returns-in-LoneSurrogate-clause-cause : goal.returns-in-LoneSurrogate-clause-cause
returns-in-LoneSurrogate-clause-cause g c = grind (arith, common_steps)

pub returns-in-OddLength-clause-later : goal.returns-in-OddLength-clause-later
returns-in-OddLength-clause-later g c = grind (arith, common_steps)

pub returns-in-OddLength-clause-cause : goal.returns-in-OddLength-clause-cause
returns-in-OddLength-clause-cause g c = grind (arith, common_steps)

pub returns-in-OddLength-clause-line : goal.returns-in-OddLength-clause-line
returns-in-OddLength-clause-line g c = grind (arith, common_steps)

pub returns-in-OddLength-clause-front : goal.returns-in-OddLength-clause-front
returns-in-OddLength-clause-front g c = grind (arith, common_steps)

pub returns-in-NoMemory-clause-later : goal.returns-in-NoMemory-clause-later
returns-in-NoMemory-clause-later g c = grind (arith, common_steps)

pub returns-in-NoMemory-clause-cause : goal.returns-in-NoMemory-clause-cause
returns-in-NoMemory-clause-cause g c = grind (arith, common_steps)

pub returns-in-NoMemory-clause-line : goal.returns-in-NoMemory-clause-line
returns-in-NoMemory-clause-line g c = grind (arith, common_steps)

pub returns-in-NoMemory-clause-front : goal.returns-in-NoMemory-clause-front
returns-in-NoMemory-clause-front g c = grind (arith, common_steps)
