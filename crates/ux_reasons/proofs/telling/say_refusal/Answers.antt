use Rattle.std.proofs.Common.{arith}
use Rattle.std.proofs.lemmas.Grind.{common_steps}
use Rattle.ux_reasons.proofs.telling.say_refusal.Goals as goal

pub returns-in-Decode-clause-later : goal.returns-in-Decode-clause-later
returns-in-Decode-clause-later g c = grind (arith, common_steps)

pub returns-in-Decode-clause-cause : goal.returns-in-Decode-clause-cause
returns-in-Decode-clause-cause g c = grind (arith, common_steps)

pub returns-in-Decode-clause-line : goal.returns-in-Decode-clause-line
returns-in-Decode-clause-line g c = grind (arith, common_steps)

pub returns-in-Decode-clause-front : goal.returns-in-Decode-clause-front
returns-in-Decode-clause-front g c = grind (arith, common_steps)

pub returns-in-Alphabet-clause-later : goal.returns-in-Alphabet-clause-later
returns-in-Alphabet-clause-later g c = grind (arith, common_steps)

pub returns-in-Alphabet-clause-cause : goal.returns-in-Alphabet-clause-cause
returns-in-Alphabet-clause-cause g c = grind (arith, common_steps)

pub returns-in-Alphabet-clause-line : goal.returns-in-Alphabet-clause-line
returns-in-Alphabet-clause-line g c = grind (arith, common_steps)

pub returns-in-Alphabet-clause-front : goal.returns-in-Alphabet-clause-front
returns-in-Alphabet-clause-front g c = grind (arith, common_steps)

pub returns-in-Grf-clause-later : goal.returns-in-Grf-clause-later
returns-in-Grf-clause-later g c = grind (arith, common_steps)

pub returns-in-Grf-clause-cause : goal.returns-in-Grf-clause-cause
returns-in-Grf-clause-cause g c = grind (arith, common_steps)

pub returns-in-Grf-clause-line : goal.returns-in-Grf-clause-line
returns-in-Grf-clause-line g c = grind (arith, common_steps)

pub returns-in-Grf-clause-front : goal.returns-in-Grf-clause-front
returns-in-Grf-clause-front g c = grind (arith, common_steps)

pub returns-in-Net-clause-later : goal.returns-in-Net-clause-later
returns-in-Net-clause-later g c = grind (arith, common_steps)

pub returns-in-Net-clause-cause : goal.returns-in-Net-clause-cause
returns-in-Net-clause-cause g c = grind (arith, common_steps)

pub returns-in-Net-clause-line : goal.returns-in-Net-clause-line
returns-in-Net-clause-line g c = grind (arith, common_steps)

pub returns-in-Net-clause-front : goal.returns-in-Net-clause-front
returns-in-Net-clause-front g c = grind (arith, common_steps)

pub returns-in-Dela-clause-later : goal.returns-in-Dela-clause-later
returns-in-Dela-clause-later g c = grind (arith, common_steps)

pub returns-in-Dela-clause-cause : goal.returns-in-Dela-clause-cause
returns-in-Dela-clause-cause g c = grind (arith, common_steps)

pub returns-in-Dela-clause-line : goal.returns-in-Dela-clause-line
returns-in-Dela-clause-line g c = grind (arith, common_steps)

pub returns-in-Dela-clause-front : goal.returns-in-Dela-clause-front
returns-in-Dela-clause-front g c = grind (arith, common_steps)

pub returns-in-TooManyGraphs-clause-later : goal.returns-in-TooManyGraphs-clause-later
returns-in-TooManyGraphs-clause-later g c = grind (arith, common_steps)

pub returns-in-TooManyGraphs-clause-cause : goal.returns-in-TooManyGraphs-clause-cause
returns-in-TooManyGraphs-clause-cause g c = grind (arith, common_steps)

pub returns-in-Image-clause-later : goal.returns-in-Image-clause-later
returns-in-Image-clause-later g c = grind (arith, common_steps)

pub returns-in-Image-clause-cause : goal.returns-in-Image-clause-cause
returns-in-Image-clause-cause g c = grind (arith, common_steps)

pub returns-in-Image-clause-line : goal.returns-in-Image-clause-line
returns-in-Image-clause-line g c = grind (arith, common_steps)

pub returns-in-Image-clause-front : goal.returns-in-Image-clause-front
returns-in-Image-clause-front g c = grind (arith, common_steps)

pub returns-in-Sentence-clause-later : goal.returns-in-Sentence-clause-later
returns-in-Sentence-clause-later g c = grind (arith, common_steps)

pub returns-in-Sentence-clause-cause : goal.returns-in-Sentence-clause-cause
returns-in-Sentence-clause-cause g c = grind (arith, common_steps)

pub returns-in-Sentence-clause-line : goal.returns-in-Sentence-clause-line
returns-in-Sentence-clause-line g c = grind (arith, common_steps)

pub returns-in-Sentence-clause-front : goal.returns-in-Sentence-clause-front
returns-in-Sentence-clause-front g c = grind (arith, common_steps)

pub returns-in-Rule-clause-later : goal.returns-in-Rule-clause-later
returns-in-Rule-clause-later g c = grind (arith, common_steps)

pub returns-in-Rule-clause-cause : goal.returns-in-Rule-clause-cause
returns-in-Rule-clause-cause g c = grind (arith, common_steps)

pub returns-in-Rule-clause-line : goal.returns-in-Rule-clause-line
returns-in-Rule-clause-line g c = grind (arith, common_steps)

pub returns-in-Rule-clause-front : goal.returns-in-Rule-clause-front
returns-in-Rule-clause-front g c = grind (arith, common_steps)
