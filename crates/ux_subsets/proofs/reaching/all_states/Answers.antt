use Rattle.std.proofs.Common.{arith, ◌≡◌, refl, length}
use Rattle.ux_subsets.specs.Agenda.{filed_in}
use Rattle.ux_subsets.proofs.StagesLemmas.{grows_none, grows_both, all_reached}
use Rattle.ux_subsets.proofs.reaching.all_states.Goals as goal

pub loop-state-init : goal.loop-state-init
loop-state-init g c = record {
  within = let some = c.requires.some in omega (arith, some);
  due = c.requires.due;
  grows = grows_none (g.M.Machine.stands c.args.machine.now) (g.M.Machine.satisfies c.args.machine.now);
  staged = λ source sets border start up counted none s. (none, (sets, border, 0, refl, counted, s));
}

pub one_state-requires : goal.one_state-requires
one_state-requires g c = c.loop-state.invariant.due

pub loop-state-preserved : goal.loop-state-preserved
loop-state-preserved g c = record {
  within = let lt = c.loop-state-test.true in omega (arith, lt);
  due = c.in_ok-so_far.ensures.due;
  grows = grows_both c.loop-state.invariant.grows c.in_ok-so_far.ensures.grows;
  staged = λ source sets border start up counted none s.
      let now = c.loop-state.invariant.staged source sets border start up counted none s in
      let at = now.1 in
      let next = c.in_ok-so_far.ensures.staged source at.0 at.1 at.2 start up at.3 at.4 now.0 at.5 in
      (next.0, (next.1.0, length at.0, c.loop-state.state, refl, next.1.1, next.1.2));
}

pub returns-clause-grows : goal.returns-clause-grows
returns-clause-grows g c = c.loop-state.invariant.grows

pub returns-clause-reached : goal.returns-clause-reached
returns-clause-reached g c = λ source sets border start up counted none s.
    let now = c.loop-state.invariant.staged source sets border start up counted none s in
    let at = now.1 in
    let within = c.loop-state.invariant.within in
    let here : c.loop-state.state ≡ c.args.last = omega (arith, within) in
    let is = at.3 in (
      at.0,
      all_reached c.args.last source up at.0 c.loop-state.links.items c.loop-state.overs.items (filed_in c.loop-state.agenda) at.1 at.2 c.loop-state.so_far.all
          (omega (arith, here, is)) c.loop-state.so_far.count at.4 at.5,
    )
