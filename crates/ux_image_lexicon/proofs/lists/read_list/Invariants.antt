use Rattle.std.proofs.Common.{take}
use Rattle.std.specs.List.{AllZip}
use Rattle.ux_image_lexicon.specs.Told.{IsRead}
use Rattle.ux_image_lexicon.proofs.lists.read_list.Given as goal

-- the codes so far were read
abbrev pub invariant-loop-code : goal.invariant-loop-code
invariant-loop-code l = AllZip IsRead (take l.code-index l.code-items) l.codes.items
