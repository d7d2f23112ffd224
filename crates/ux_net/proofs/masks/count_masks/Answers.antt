use Rattle.std.proofs.Common.{List, Bor, map, sym, ◌∙◌, subst}
use Rattle.std.proofs.lemmas.List.{length-map}
use Rattle.ux_base.specs.Distinct.{GrowsBy}
use Rattle.ux_base.proofs.FirstsLemmas.{GrowsBy-from_none}
use Rattle.ux_masks.specs.declared.mask.Mask.{Mask}
use Rattle.ux_net.specs.Masks.{masks_of, masks_in}
use Rattle.ux_net.proofs.masks.count_masks.Goals as goal

pub returns : goal.returns
returns c = (
  masks_in c.note_graphs.new.masks,
  GrowsBy-from_none (masks_of c.args.graphs.now) (masks_in c.note_graphs.new.masks)
      (subst (λ (keys : List (Bor Mask)). GrowsBy (masks_of c.args.graphs.now)
      (map (λ (mask : Bor Mask). mask.now) keys) (masks_in c.note_graphs.new.masks))
      c.new-masks.ensures.empty c.in_ok-note_graphs.ensures),
  length-map c.note_graphs.new.masks.keys (λ (mask : Bor Mask). mask.now)
      ∙ sym c.len.ensures.len,
)
