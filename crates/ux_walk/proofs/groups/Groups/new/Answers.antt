use Rattle.std.proofs.Common.{rules}
use Rattle.ux_walk.proofs.GroupsLemmas.{none_grouped}
use Rattle.ux_walk.proofs.groups.Groups.new.Goals as goal

pub returns-clause-grouped : goal.returns-clause-grouped
returns-clause-grouped g c = none_grouped _ (search rules) c.new-2.ensures c.new-3.ensures.items
