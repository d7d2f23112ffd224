use Rattle.std.proofs.Common.{sym, subst}
use Rattle.std.specs.Prelude.{OnOk}
use Rattle.ux_base.specs.Distinct.{GrowsBy}
use Rattle.ux_net.specs.declared.label.Label.{Label}
use Rattle.ux_net.specs.Masks.{masks_of_label, masks_in}
use Rattle.ux_mask_table.proofs.net_masks.note_edge.Goals as goal

pub returns-in-Mask : goal.returns-in-Mask
returns-in-Mask c =
    subst (λ (label : Label). OnOk c.note_mask.result (GrowsBy (masks_of_label label)
    (masks_in c.args.masks.now) (masks_in c.note_mask.new.masks))) (sym c.in-Mask.is)
    c.note_mask.ensures
