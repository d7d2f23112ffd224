use Rattle.std.proofs.Common.{take}
use Rattle.ux_dawg.specs.Building.{IsGrown}
use Rattle.ux_dawg.proofs.pending.grow.Given as goal

abbrev pub invariant-loop-letter : goal.invariant-loop-letter
invariant-loop-letter l =
    IsGrown l.register l.initial.pending.above.items l.initial.top (take l.letter-index l.word)
    l.pending.above.items l.top
