use Rattle.std.proofs.Common.{List, ℕ, sym, subst}
use Rattle.std.proofs.lemmas.Result.{IfOk-weaker}
use Rattle.std.specs.Prelude.{IfOk}
use Rattle.ux_grf.specs.declared.item.Item.{Item}
use Rattle.ux_rules.specs.Drafts.{SaysItem, SaysMask}
use Rattle.ux_rules.proofs.ItemLemmas.{mask_says}
use Rattle.ux_rules.proofs.items.sign_of.Goals as goal

pub returns-in-Mask : goal.returns-in-Mask
returns-in-Mask c =
    subst (λ (it : Item). IfOk c.sign_of_mask.result (SaysItem it)) (sym c.in-Mask.is)
    (IfOk-weaker c.sign_of_mask.result _ _ (λ sign says.
    mask_says c.in-Mask.text sign
    (subst (λ (t : List ℕ). SaysMask t sign) c.as_str.ensures says)) c.sign_of_mask.ensures)
