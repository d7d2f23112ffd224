use Rattle.std.proofs.Common.{◌≤◌, length}
use Rattle.ux_image_look_ups.proofs.SpellingLemmas.{rest_at}
use Rattle.ux_image_look_ups.proofs.spelling.read.Given as goal

-- the form goes on from here
abbrev pub invariant-loop-left : goal.invariant-loop-left
invariant-loop-left l = (l.left ≤ length l.rows)
    × rest_at l.rows l.fn.state l.fn.place l.letters.items l.code l.left l.state l.place

abbrev pub decreases-loop-left : goal.decreases-loop-left
decreases-loop-left l = l.left
