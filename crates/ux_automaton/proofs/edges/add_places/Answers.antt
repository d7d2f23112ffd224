use Rattle.std.proofs.Common.{get_or}
use Rattle.std.specs.Prelude.{Contains}
use Rattle.ux_walk.specs.Settings.{masked_setting}
use Rattle.ux_automaton.specs.Targets.{IsTargetAt}
use Rattle.ux_automaton.proofs.AddingLemmas.{adds_all, adds_first, adds_next, item_at}
use Rattle.ux_automaton.proofs.edges.add_places.Goals as goal

pub loop-place-init : goal.loop-place-init
loop-place-init c =
    adds_first (IsTargetAt (masked_setting c.args.masked.now) c.args.at c.args.stand c.args.edges.now)
    (Contains c.args.targets.now.items) c.args.places.now

pub loop-place-preserved : goal.loop-place-preserved
loop-place-preserved c =
    adds_next (IsTargetAt (masked_setting c.args.masked.now) c.args.at c.args.stand c.args.edges.now)
    (Contains c.args.targets.now.items) (Contains c.loop-place.targets.items)
    (Contains c.add_place.new.targets.items) c.args.places.now c.loop-place.place-index
    (get_or c.args.places.now c.loop-place.place-index 0) c.loop-place-test.true
    (item_at c.args.places.now c.loop-place.place-index 0 c.loop-place-test.true)
    c.loop-place.invariant c.in_ok-add_place.ensures

pub returns : goal.returns
returns c =
    adds_all (IsTargetAt (masked_setting c.args.masked.now) c.args.at c.args.stand c.args.edges.now)
    (Contains c.args.targets.now.items) (Contains c.loop-place.targets.items) c.args.places.now
    c.loop-place.place-index c.loop-place-test.false c.loop-place.invariant
