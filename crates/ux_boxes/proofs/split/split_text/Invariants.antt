use Rattle.std.proofs.Common.{length}
use denote.Text.{Utf8}
use denote.Shadow.{shadow}
use Rattle.ux_tokens.specs.Tokens.{with_single_spaces}
use Rattle.ux_boxes.proofs.SplittingLemmas.{IsCutInto}
use Rattle.ux_boxes.proofs.split.split_text.Given as goal

-- the text is cut up to the rest
abbrev pub invariant-loop-rest : goal.invariant-loop-rest
invariant-loop-rest l =
    let text = with_single_spaces l.fn.text in
    shadow (Utf8 l.rest) × IsCutInto l.alphabet l.comparison text l.fn.labels.items l.rest
    l.labels.items

abbrev pub decreases-loop-rest : goal.decreases-loop-rest
decreases-loop-rest l = length l.rest
