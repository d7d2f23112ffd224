use Rattle.std.proofs.Common.{ℕ, [], ◌∷◌, subst}
use Rattle.std.proofs.lemmas.Result.{on_ok_weaker}
use Rattle.ux_folds.specs.Lists.{IsMore}
use Rattle.ux_listing.proofs.GroupsLemmas.{group_more}
use Rattle.ux_listing.proofs.groups.Groups.add.Goals as goal

pub returns : goal.returns
returns g c = on_ok_weaker c.put_in.result (λ put grouped. group_more _ _ c.args.group
    c.in_ok-longer.longer c.args.value (subst (λ (n : ℕ). IsMore c.args.self.now.lists.links.keys
    c.push.new.self.links.keys n (c.args.value ∷ []) c.in_ok-longer.longer) c.list-front.ensures
    c.in_ok-longer.ensures) put grouped) c.put_in.ensures
