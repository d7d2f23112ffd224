use Rattle.ux_image_lists.specs.Depths.{AreDepths}
use Rattle.ux_image_lists.proofs.shortest.depths_of.Given as goal

-- the edges of the states so far were followed
abbrev pub invariant-loop-done : goal.invariant-loop-done
invariant-loop-done l = AreDepths l.states l.root l.done l.depths.items
