use Rattle.std.proofs.Common.{List, sym, subst, ◌∙◌}
use Rattle.ux_dawg.specs.declared.state.State.{State}
use Rattle.ux_dawg.specs.Paths.{AreStates}
use Rattle.ux_dawg.specs.Automaton.{IsMinimalOf}
use Rattle.ux_dawg.proofs.FinishLemmas.{finished_states}
use Rattle.ux_dawg.proofs.BuilderLemmas.{automaton_of}
use Rattle.ux_dawg.proofs.builder.Builder.finish.Goals as goal

pub keep-requires : goal.keep-requires
keep-requires c = c.in_ok-open.ensures.sound.fit

pub of-requires-clause-states : goal.of-requires-clause-states
of-requires-clause-states c = subst AreStates (sym c.into_states.ensures.states)
    (finished_states _ _ _ _ _ _ _ _ _ _ c.self.invariant.holds.ready c.in_ok-open.ensures
    c.as_slice.ensures c.in_ok-root.ensures c.into_states.ensures.states
    c.into_states.ensures.once).fit

pub returns : goal.returns
returns c =
    subst (λ (states : List State). IsMinimalOf c.args.self states)
    (sym (c.of.ensures ∙ c.into_states.ensures.states)) (
      c.in_ok-root.root,
      automaton_of c.args.self _ _ _ _ c.self.view_is c.self.invariant _ _
          (finished_states _ _ _ _ _ _ _ _ _ _ c.self.invariant.holds.ready c.in_ok-open.ensures
          c.as_slice.ensures c.in_ok-root.ensures c.into_states.ensures.states
          c.into_states.ensures.once),
    )
