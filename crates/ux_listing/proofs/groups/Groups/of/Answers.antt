use Rattle.std.proofs.Common.{ℕ, subst, sym}
use Rattle.std.proofs.lemmas.Result.{IfOk-weaker}
use Rattle.ux_folds.specs.Lists.{Spells}
use Rattle.ux_listing.proofs.GroupsLemmas.{listed_in}
use Rattle.ux_listing.proofs.groups.Groups.of.Goals as goal

pub returns : goal.returns
returns g c = IfOk-weaker c.items.result _ _ (λ values told grouped.
    listed_in c.args.self.now c.args.group values.items grouped (λ xs sound spells.
    told xs sound (subst (λ (n : ℕ). Spells c.args.self.now.lists.links.keys n xs)
    (sym c.list.ensures) spells))) c.items.ensures
