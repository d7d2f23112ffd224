use Rattle.ux_tfst_locate.proofs.ListingLemmas.{AreAddedTo}
use Rattle.ux_tfst_locate.proofs.listing.push_ends.Given as goal

abbrev pub invariant-loop-to : goal.invariant-loop-to
invariant-loop-to l =
    AreAddedTo l.fn.found.items l.from l.ends l.leading l.to-index l.found.items
