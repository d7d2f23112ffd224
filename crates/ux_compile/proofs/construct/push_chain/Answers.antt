use Rattle.ux_compile.specs.Construct.{chain_state}
use Rattle.ux_base.proofs.JoinedLists.{adds_item}
use Rattle.ux_compile.proofs.construct.push_chain.Goals as goal

pub loop-k-preserved : goal.loop-k-preserved
loop-k-preserved c =
    adds_item (chain_state c.args.places.now c.args.place c.args.line)
    c.args.states.now.items c.loop-k.states.items c.push.new.self.items
    c.in_ok-chain_state.field-0 c.loop-k.k
    c.loop-k.invariant c.in_ok-push.ensures.items c.in_ok-chain_state.ensures
