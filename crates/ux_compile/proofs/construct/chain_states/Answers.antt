use Rattle.ux_compile.specs.Construct.{along_lines, chain_state}
use Rattle.ux_base.proofs.JoinedLists.{adds_list}
use Rattle.ux_compile.proofs.construct.chain_states.Goals as goal

pub loop-place-preserved : goal.loop-place-preserved
loop-place-preserved c =
    adds_list (along_lines c.args.places.now (chain_state c.args.places.now))
    c.args.states.now.items c.loop-place.states.items c.push_chains.new.states.items
    c.loop-place.place
    c.loop-place.invariant c.in_ok-push_chains.ensures
