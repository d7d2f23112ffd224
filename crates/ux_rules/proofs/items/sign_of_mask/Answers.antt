use Rattle.ux_rules.proofs.ItemLemmas.{says_mask}
use Rattle.ux_rules.proofs.items.sign_of_mask.Goals as goal

pub returns-in-Ok : goal.returns-in-Ok
returns-in-Ok c =
    says_mask c.args.text.now c.in-Ok.mask c.sign_in.result c.in-Ok.ensures.ok c.sign_in.ensures
