use Rattle.std.proofs.Common.{take}
use Rattle.ux_morpho.specs.Putting.{AreLinesOf}
use Rattle.ux_morpho.proofs.lines.lines_of.Given as goal

-- the lines are those of the outputs so far
abbrev pub invariant-loop-output : goal.invariant-loop-output
invariant-loop-output l = AreLinesOf l.token (take l.output-index l.outputs) l.lines.items
