use Rattle.std.proofs.Common.{arith}
use Rattle.ux_image.proofs.CutLemmas.{cut_length}
use Rattle.ux_image.proofs.sketch.put_changes.Goals as goal

pub loop-in_form-smaller : goal.loop-in_form-smaller
loop-in_form-smaller c =
    let part = cut_length c.loop-in_form.form_rest.now c.in-Some.in_form c.in-Some.ensures in
    omega (arith, part)

pub loop-in_form-preserved : goal.loop-in_form-preserved
loop-in_form-preserved c = (c.in-Some.ensures.utf8, c.in-Some-split_piece.ensures.utf8)
