use Rattle.ux_masks.specs.Equal.{mask_eq, mask_eq-Decides}
use Rattle.ux_net.proofs.MaskSetLemmas.{set_grows}
use Rattle.ux_mask_table.proofs.net_masks.note_mask.Goals as goal

pub returns : goal.returns
returns c =
    set_grows mask_eq mask_eq-Decides c.args.masks.now.keys c.insert_full.new.self.keys c.args.mask
    c.in_ok-insert_full.ensures.keys
