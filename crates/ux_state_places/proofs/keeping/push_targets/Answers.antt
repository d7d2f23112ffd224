use Rattle.std.proofs.Common.{get_or}
use Rattle.std.proofs.lemmas.List.{get_or_default}
use Rattle.ux_admission.proofs.GainsLemmas.{gains_item, gains_items}
use Rattle.ux_state_places.specs.Keeping.{IsKeptTarget}
use Rattle.ux_state_places.proofs.keeping.push_targets.Goals as goal

pub loop-target-preserved : goal.loop-target-preserved
loop-target-preserved c =
    let target = get_or c.args.targets.now c.loop-target.target-index 0 in
    gains_item c.args.kept.now.items c.loop-target.kept.items c.push_target.new.kept.items
    c.args.targets.now c.loop-target.target-index target
    (IsKeptTarget c.args.places.now c.args.is_met) c.loop-target-test.true
    (get_or_default c.args.targets.now c.loop-target.target-index 0 target c.loop-target-test.true)
    c.loop-target.invariant c.in_ok-push_target.ensures

pub returns : goal.returns
returns c =
    gains_items c.args.kept.now.items c.loop-target.kept.items c.args.targets.now
    c.loop-target.target-index (IsKeptTarget c.args.places.now c.args.is_met)
    c.loop-target-test.false c.loop-target.invariant
