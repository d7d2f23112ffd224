use Rattle.std.proofs.Common.{arith, ◌<◌, refl, get_or, length, set, true}
use Rattle.std.proofs.lemmas.List.{get_or_default}
use Rattle.std.proofs.lemmas.List.Elements.{Contains-get_or}
use Rattle.ux_tfst_locate.specs.declared.lattice.Arc.{Arc}
use Rattle.ux_tfst_locate.proofs.ReachingLemmas.{has_all, has_more}
use Rattle.ux_tfst_locate.proofs.reaching.mark_targets.Goals as goal

abbrev none : Arc
none = record { from = 0; to = 0; reading = 0 }

pub index_mut-requires : goal.index_mut-requires
index_mut-requires c =
    let row = c.args.row.now in
    let k = c.loop-arc.arc-index in
    let inside = c.loop-arc-test.true in
    let low = c.requires (get_or row k none) (Contains-get_or row k none inside) in
    let count = c.loop-arc.invariant.count in
    omega (arith, low, count)

pub loop-arc-preserved : goal.loop-arc-preserved
loop-arc-preserved c =
    let row = c.args.row.now in
    let k = c.loop-arc.arc-index in
    let inside = c.loop-arc-test.true in
    let low = c.requires (get_or row k none) (Contains-get_or row k none inside) in
    let count = c.loop-arc.invariant.count in
    let bound : (get_or row k none).to < length c.loop-arc.marks.items = omega (arith, low, count) in
    has_more row c.args.marks.now.items k (get_or row k none) c.loop-arc.marks.items
    (set c.loop-arc.marks.items (get_or row k none).to true) inside
    (get_or_default row k none (get_or row k none) inside) bound refl c.loop-arc.invariant

pub returns-clause-marked : goal.returns-clause-marked
returns-clause-marked c =
    has_all c.args.row.now c.args.marks.now.items c.loop-arc.arc-index c.loop-arc.marks.items
    c.loop-arc-test.false c.loop-arc.invariant
