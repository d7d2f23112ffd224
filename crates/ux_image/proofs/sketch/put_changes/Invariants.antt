use Rattle.std.proofs.Common.{length}
use denote.Text.{Utf8}
use denote.Shadow.{shadow}
use Rattle.ux_image.proofs.sketch.put_changes.Given as goal

abbrev pub invariant-loop-in_form : goal.invariant-loop-in_form
invariant-loop-in_form l = shadow (Utf8 l.form_rest) × shadow (Utf8 l.lemma_rest)

abbrev pub decreases-loop-in_form : goal.decreases-loop-in_form
decreases-loop-in_form l = length l.form_rest
