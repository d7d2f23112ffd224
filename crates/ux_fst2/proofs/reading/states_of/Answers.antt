use Rattle.std.proofs.Common.{◌+◌, sym, subst, take}
use Rattle.std.specs.List.{AllZip}
use Rattle.ux_fst2.specs.Files.{IsStateBy}
use Rattle.ux_fst2.specs.Inner.{IsBorneBy}
use Rattle.ux_fst2.proofs.Zips.{zip-more}
use Rattle.ux_fst2.proofs.reading.states_of.Goals as goal

pub loop-state-preserved : goal.loop-state-preserved
loop-state-preserved c =
    let R = IsStateBy (IsBorneBy c.args.tags.now) in
    let told = c.args.states.now in
    let i = c.loop-state.state-index in
    subst (AllZip R (take (i + 1) told)) (sym c.in_ok-push.ensures.items)
    (zip-more R told c.loop-state.told.items i c.state-item.result c.in_ok-state_of.field-0
    c.loop-state-test.true c.state-item.is c.loop-state.invariant c.in_ok-state_of.ensures)
