use Rattle.ux_fst2.proofs.tag.folded_label.Goals as goal

pub returns-in-Mask : goal.returns-in-Mask
returns-in-Mask c = rw c.in-Mask.is (c.mask_label.ensures)
