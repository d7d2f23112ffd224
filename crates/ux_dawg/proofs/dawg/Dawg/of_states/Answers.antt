use Rattle.std.proofs.Common.{arith, ◌∙◌, subst, sym}
use Rattle.std.proofs.lemmas.List.{take_all}
use Rattle.ux_dawg.specs.Paths.{AreStates}
use Rattle.ux_dawg.proofs.dawg.Dawg.of_states.Goals as goal

pub of-requires-clause-states : goal.of-requires-clause-states
of-requires-clause-states c =
    subst AreStates
    (sym (c.loop-state.invariant ∙ take_all c.loop-state.state-index c.args.states.now (omega arith)))
    c.requires.fit
