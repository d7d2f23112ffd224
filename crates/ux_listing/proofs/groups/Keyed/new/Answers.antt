use Rattle.ux_listing.proofs.GroupsLemmas.{none_keyed}
use Rattle.ux_listing.proofs.groups.Keyed.new.Goals as goal

pub returns-clause-keyed : goal.returns-clause-keyed
returns-clause-keyed g c = none_keyed _ c.new.ensures c.new-2.ensures.grouped
    c.new-2.ensures.nothing

pub returns-clause-nothing : goal.returns-clause-nothing
returns-clause-nothing g c = λ key v at. c.new-2.ensures.nothing at.number v at.within
