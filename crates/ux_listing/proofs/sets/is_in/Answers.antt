use Rattle.std.proofs.Common.{◌∙◌, sym}
use Rattle.std.proofs.lemmas.Map.Views.{list_any-from_Contains}
use Rattle.indexmap.proofs.CallerLemmas.{Contains-list_any}
use Rattle.ux_listing.proofs.sets.is_in.Goals as goal

pub returns : goal.returns
returns g c =
    let is = c.is_some.ensures ∙ c.place_of.ensures.found in (
      λ on. Contains-list_any _ c.requires c.args.set.now.keys c.args.item (sym is ∙ on),
      λ h. is ∙ list_any-from_Contains g.met.T.Eq.laws c.args.item c.args.set.now.keys h,
    )
