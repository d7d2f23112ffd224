use Rattle.std.proofs.Common.{◌≡◌, take}
use Rattle.ux_image_lexicon.proofs.lists.copies.Given as goal

-- the pairs so far were copied
abbrev pub invariant-loop-pair : goal.invariant-loop-pair
invariant-loop-pair l = l.copies ≡ take l.pair-index l.pairs
