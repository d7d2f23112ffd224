use Rattle.ux_image_lists.specs.Depths.{AreLeast}
use Rattle.ux_image_lists.proofs.shortest.shortest_forms.Given as goal

-- the lists of the states so far have the least of their numbers
abbrev pub invariant-loop-number : goal.invariant-loop-number
invariant-loop-number l = AreLeast l.states l.depths.items l.number l.lists l.shortest.items
