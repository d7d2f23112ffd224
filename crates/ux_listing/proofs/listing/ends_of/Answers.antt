use Rattle.std.proofs.Common.{get_or}
use Rattle.std.proofs.lemmas.Option.{slice_get-get_or}
use Rattle.ux_listing.proofs.GatheringLemmas.{gathering_none, gathering_more, gathering_all}
use Rattle.ux_listing.proofs.PutLemmas.{no_item}
use Rattle.ux_listing.proofs.listing.ends_of.Goals as goal

pub loop-item-init : goal.loop-item-init
loop-item-init c = gathering_none c.args.visit c.args.seen.now c.new-ends.result.keys
    c.new-ends.ensures

pub loop-item-preserved : goal.loop-item-preserved
loop-item-preserved c =
    let items = c.args.seen.now in
    gathering_more c.args.visit items c.loop-item.ends.keys c.add_end.new.ends.keys
    c.loop-item.item-index (get_or items c.loop-item.item-index no_item)
    (slice_get-get_or items c.loop-item.item-index no_item c.loop-item-test.true)
    c.in_ok-add_end.ensures c.loop-item.invariant

pub returns : goal.returns
returns c = gathering_all c.args.visit c.args.seen.now c.loop-item.ends.keys c.loop-item.item-index
    c.loop-item-test.false c.loop-item.invariant
