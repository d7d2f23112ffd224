use Rattle.std.proofs.Common.{take}
use Rattle.ux_image_lexicon.specs.Counting.{AreApart}
use Rattle.ux_image_lexicon.proofs.apart.lists_apart.Given as goal

-- the lists so far have flags
abbrev pub invariant-loop-list : goal.invariant-loop-list
invariant-loop-list l = AreApart (take l.list-index l.lists) l.flags.items
