use Rattle.std.proofs.Common.{◌≡◌, ◌++◌, length, string_bytes}
use denote.Text.{Utf8}
use denote.Shadow.{shadow}
use Rattle.ux_image.specs.Codes.{made_of_pieces}
use Rattle.ux_image.proofs.rebuilding.put_pieces.Given as goal

-- the text so far, and what the pairs that are left make of the rest
abbrev pub invariant-loop-cut : goal.invariant-loop-cut
invariant-loop-cut l =
    shadow (Utf8 l.rest)
    × (string_bytes l.text ++ made_of_pieces l.pairs_left l.rest
    ≡ string_bytes l.fn.text ++ made_of_pieces l.pairs l.form)

abbrev pub decreases-loop-cut : goal.decreases-loop-cut
decreases-loop-cut l = length l.rest
