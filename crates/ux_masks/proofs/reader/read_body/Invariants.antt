use Rattle.std.proofs.Common.{length}
use denote.Text.{Utf8}
use denote.Shadow.{shadow}
use Rattle.ux_masks.proofs.DraftLemmas.{IsDraft}
use Rattle.ux_masks.proofs.reader.read_body.Given as goal

-- the names so far
abbrev pub invariant-loop-sign : goal.invariant-loop-sign
invariant-loop-sign l = shadow (Utf8 l.rest) × IsDraft l.text l.last l.draft l.rest

abbrev pub decreases-loop-sign : goal.decreases-loop-sign
decreases-loop-sign l = length l.rest
