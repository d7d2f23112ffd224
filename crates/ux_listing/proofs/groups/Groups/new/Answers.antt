use Rattle.ux_listing.proofs.GroupsLemmas.{none_grouped, none_in}
use Rattle.ux_listing.proofs.groups.Groups.new.Goals as goal

pub returns-clause-grouped : goal.returns-clause-grouped
returns-clause-grouped g c = none_grouped _ c.new.ensures c.new-2.ensures.items

pub returns-clause-nothing : goal.returns-clause-nothing
returns-clause-nothing g c = none_in _ c.new.ensures c.new-2.ensures.items
