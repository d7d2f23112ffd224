use Rattle.std.proofs.Common.{List, ℕ, subst}
use Rattle.ux_image.specs.Cutting.{IsSeparatorAt}
use Rattle.ux_image.proofs.CutLemmas.{cut_is}
use Rattle.ux_image.proofs.pieces.split_piece.Goals as goal

pub returns : goal.returns
returns c =
    cut_is c.args.text.now c.in_ok-place.place _
    (subst (λ (t : List ℕ). IsSeparatorAt t c.in_ok-place.place) c.as_bytes.ensures.value
    c.in_ok-place.ensures)
    c.before-2.ensures
    c.sign_at.ensures c.behind.ensures c.behind.utf8
