use Rattle.std.proofs.Common.{arith}
use Rattle.std.proofs.lemmas.Grind.{common_steps}
use Rattle.ux_alphabet.proofs.upper_forms.end_of.Goals as goal

pub loop-line-init : goal.loop-line-init
loop-line-init c = grind (arith, common_steps)

pub offset_bounds-lines-line-index : goal.offset_bounds-lines-line-index
offset_bounds-lines-line-index c = grind (arith, common_steps)

pub returns : goal.returns
returns c = grind (arith, common_steps)
