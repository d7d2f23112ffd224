use Rattle.ux_image_lists.specs.Summing.{AreSums}
use Rattle.ux_image_lists.proofs.sizes.sums_of.Given as goal

-- the sums of the states so far
abbrev pub invariant-loop-number : goal.invariant-loop-number
invariant-loop-number l = AreSums l.states l.lists.keys l.number l.sums.items
