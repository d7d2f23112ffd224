use Rattle.std.proofs.Common.{◌≡◌, length}
use Rattle.std.specs.Prelude.{◌↔◌}
use denote.Text.{Utf8}
use denote.Shadow.{shadow}
use Rattle.ux_image.specs.Pieces.{separators}
use Rattle.ux_image.proofs.pieces.have_same_separators.Given as goal

-- the texts agree where their rests do
abbrev pub invariant-loop-in_form : goal.invariant-loop-in_form
invariant-loop-in_form l =
    shadow (Utf8 l.form_rest) × shadow (Utf8 l.lemma_rest)
    × ((separators l.form ≡ separators l.lemma)
    ↔ (separators l.form_rest ≡ separators l.lemma_rest))

abbrev pub decreases-loop-in_form : goal.decreases-loop-in_form
decreases-loop-in_form l = length l.form_rest
