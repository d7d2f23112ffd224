use Rattle.std.proofs.Common.{take}
use Rattle.ux_base.specs.Distinct.{AreFirsts}
use Rattle.ux_image.specs.Images.{numbers_in}
use Rattle.ux_image.proofs.numbering.order_of.Given as goal

-- the numbers of the states so far
abbrev pub invariant-loop-number : goal.invariant-loop-number
invariant-loop-number l = AreFirsts (numbers_in (take l.number l.automaton)) l.order.keys
