use Rattle.std.proofs.Common.{length}
use Rattle.ux_image.proofs.sketch.behind_same_bytes.Given as goal

abbrev pub decreases-loop-form_byte : goal.decreases-loop-form_byte
decreases-loop-form_byte l = length l.form_rest
