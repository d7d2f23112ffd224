use Rattle.std.proofs.Common.{◌≡◌, ◌↔◌, length}
use denote.Text.{Utf8}
use denote.Shadow.{shadow}
use Rattle.ux_image.specs.Pieces.{separators}
use Rattle.ux_image.specs.Codes.{pairs_of_pieces}
use Rattle.ux_image.proofs.comparing.are_pairs_of_pieces.Given as goal

-- the pairs are those of the pieces where those that are left are those of the rests
abbrev pub invariant-loop-in_form : goal.invariant-loop-in_form
invariant-loop-in_form l =
    shadow (Utf8 l.form_rest) × shadow (Utf8 l.lemma_rest)
    × (separators l.form_rest ≡ separators l.lemma_rest)
    × ((l.pairs ≡ pairs_of_pieces l.form l.lemma)
    ↔ (l.pairs_left ≡ pairs_of_pieces l.form_rest l.lemma_rest))

abbrev pub decreases-loop-in_form : goal.decreases-loop-in_form
decreases-loop-in_form l = length l.form_rest
