use Rattle.std.proofs.Common.{◌<◌, List, length, sym, subst, arith}
use Rattle.std.proofs.lemmas.Grind.{common_steps}
use Rattle.ux_net.specs.declared.state.State.{State}
use Rattle.ux_compile.specs.Construct.{AreTargetsInside}
use Rattle.ux_compile.proofs.ConstructLaw.{built, states_few, targets_inside}
use Rattle.ux_compile.proofs.construct.states.Goals as goal

pub returns-clause-few : goal.returns-clause-few
returns-clause-few c =
    subst (λ (states : List State). length states < 4294967296)
    (sym (built c.args.places.now c.requires c.chain_states.new.states.items
    c.in_ok-states.states.items c.in_ok-chain_states.ensures c.in_ok-states.ensures))
    (states_few c.args.places.now c.requires)

pub returns-clause-inside : goal.returns-clause-inside
returns-clause-inside c =
    subst AreTargetsInside
    (sym (built c.args.places.now c.requires c.chain_states.new.states.items
    c.in_ok-states.states.items c.in_ok-chain_states.ensures c.in_ok-states.ensures))
    (targets_inside c.args.places.now c.requires)

pub returns-clause-some : goal.returns-clause-some
returns-clause-some c = grind (arith, common_steps)
