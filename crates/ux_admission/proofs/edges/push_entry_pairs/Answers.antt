use Rattle.std.proofs.Common.{get_or}
use Rattle.ux_admission.specs.Ways.{no_way}
use Rattle.ux_admission.specs.Spots.{IsEntryPair}
use Rattle.std.proofs.lemmas.List.{get_or_default}
use Rattle.ux_admission.proofs.GainsLemmas.{gains_item, gains_items}
use Rattle.ux_admission.proofs.edges.push_entry_pairs.Goals as goal

pub loop-way-preserved : goal.loop-way-preserved
loop-way-preserved c =
    let way = get_or c.args.ways.now c.loop-way.way-index no_way in
    gains_item c.args.pairs.now.items c.loop-way.pairs.items c.push_entry_pair.new.pairs.items
    c.args.ways.now c.loop-way.way-index way IsEntryPair c.loop-way-test.true
    (get_or_default c.args.ways.now c.loop-way.way-index no_way way c.loop-way-test.true)
    c.loop-way.invariant c.in_ok-push_entry_pair.ensures

pub returns : goal.returns
returns c =
    gains_items c.args.pairs.now.items c.loop-way.pairs.items c.args.ways.now
    c.loop-way.way-index IsEntryPair c.loop-way-test.false
    c.loop-way.invariant
