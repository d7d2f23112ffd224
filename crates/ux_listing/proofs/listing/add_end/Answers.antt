use Rattle.ux_listing.proofs.GatheringLemmas.{one_end}
use Rattle.ux_listing.proofs.listing.add_end.Goals as goal

pub returns-in_ok-number-in-Ends : goal.returns-in_ok-number-in-Ends
returns-in_ok-number-in-Ends c = one_end c.args.visit c.args.item c.in-Ends.found c.args.ends.now.keys
    c.number.new.set.keys c.in-Ends.is (c.is_same.ensures.0 c.if-not-is_same.false)
    c.in_ok-number-in-Ends.ensures.added
