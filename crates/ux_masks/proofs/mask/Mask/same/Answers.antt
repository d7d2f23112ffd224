use Rattle.std.proofs.Common.{sym, ◌∙◌}
use Rattle.ux_masks.specs.Equal.{mask_eq-Decides}
use Rattle.ux_masks.proofs.mask.Mask.same.Goals as goal

pub returns : goal.returns
returns c =
    let d = mask_eq-Decides c.args.self.now c.args.other.now in
    (λ h. d.0 (sym c.eq.ensures ∙ h), λ e. c.eq.ensures ∙ d.1 e)
