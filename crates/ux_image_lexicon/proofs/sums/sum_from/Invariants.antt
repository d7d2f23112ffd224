use Rattle.std.proofs.Common.{take}
use Rattle.ux_image_lexicon.specs.Summing.{IsSumOf}
use Rattle.ux_image_lexicon.proofs.SummingLemmas.{forms_by}
use Rattle.ux_image_lexicon.proofs.sums.sum_from.Given as goal

-- the sum is that of the forms that end in the state or go on by one of the edges so far
abbrev pub invariant-loop-edge : goal.invariant-loop-edge
invariant-loop-edge l =
    IsSumOf l.coded.lists (forms_by l.coded l.number (take l.edge-index l.edge-items)) l.sum
