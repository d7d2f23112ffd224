use Rattle.std.proofs.Common.{[]}
use Rattle.ux_compile.specs.Construct.{at_place, place_state}
use Rattle.ux_base.proofs.JoinedLists.{adds_list}
use Rattle.ux_compile.proofs.construct.place_states.Goals as goal

pub loop-place-preserved : goal.loop-place-preserved
loop-place-preserved c =
    adds_list (at_place c.args.places.now (place_state c.args.places.now)) []
    c.loop-place.states.items c.push_place.new.states.items c.loop-place.place
    c.loop-place.invariant c.in_ok-push_place.ensures
