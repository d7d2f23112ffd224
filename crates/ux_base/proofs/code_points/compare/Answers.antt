use Rattle.std.proofs.Common.{◌∙◌, ap}
use Rattle.std.specs.Ordering.{nat_cmp}
use Rattle.std.specs.Cmp.Lexicographic.{slice_cmp}
use Rattle.ux_base.proofs.CodePoints.{code_points}
use Rattle.ux_base.proofs.code_points.compare.Goals as goal

pub returns : goal.returns
returns c =
    c.cmp.ensures
    ∙ ap (λ l. slice_cmp nat_cmp l c.as_bytes-2.result.now) c.as_bytes.ensures.value
    ∙ ap (slice_cmp nat_cmp c.args.a.now) c.as_bytes-2.ensures.value
    ∙ code_points c.args.a.now c.args.b.now c.utf8.a c.utf8.b
