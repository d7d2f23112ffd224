use Rattle.std.proofs.Common.{◌≡◌, List, subst, sym, reverse, ℕ}
use Rattle.std.specs.Prelude.{Contains}
use Rattle.ux_walk.specs.Links.{Names}
use Rattle.ux_walk.proofs.Results.{if_ok}
use Rattle.ux_walk.proofs.GroupsLemmas.{reversed_in}
use Rattle.ux_walk.proofs.groups.Groups.of.Goals as goal

pub returns : goal.returns
returns g c = if_ok c.listed.result _ _ (λ values told grouped v.
    let listed = grouped.listed c.args.group in
    let links = c.args.self.now.lists.links.keys in
    let is : values.items ≡ reverse listed.values = told listed.values grouped.below
    (subst (λ (n : ℕ). Names links n listed.values) (sym c.list.ensures) listed.names) in
    let same = reversed_in listed.values v in (
      λ h. (listed.exact v).0 (same.0 (subst (λ (l : List _). Contains l v) is h)),
      λ h. subst (λ (l : List _). Contains l v) (sym is) (same.1 ((listed.exact v).1 h)),
    )) c.listed.ensures
