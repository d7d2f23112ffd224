use Rattle.ux_listing.proofs.GatheringLemmas.{IsGathering}
use Rattle.ux_listing.proofs.listing.ends_of.Given as goal

-- the ends of the items so far were gathered
abbrev pub invariant-loop-item : goal.invariant-loop-item
invariant-loop-item l = IsGathering l.visit l.seen l.ends.keys l.item-index
