use Rattle.std.proofs.Common.{take}
use Rattle.ux_image_lexicon.specs.Told.{AreRead}
use Rattle.ux_image_lexicon.proofs.lists.read_lists.Given as goal

-- the lists so far were read
abbrev pub invariant-loop-list : goal.invariant-loop-list
invariant-loop-list l = AreRead (take l.list-index l.list-items) l.read.items
