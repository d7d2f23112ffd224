use Rattle.std.proofs.Common.{sym, ◌∙◌}
use lib.Pointwise.{pointwise_decides, bytes_decides}
use Rattle.ux_masks.proofs.lexical.same_texts.Goals as goal

pub returns : goal.returns
returns c =
    let d = pointwise_decides bytes_decides c.args.texts.now c.args.others.now in
    (λ h. d.0 (sym c.eq.ensures ∙ h), λ e. c.eq.ensures ∙ d.1 e)
