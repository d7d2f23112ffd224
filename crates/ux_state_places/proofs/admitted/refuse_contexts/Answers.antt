use Rattle.std.proofs.Common.{sym, subst, ℕ}
use Rattle.ux_net.specs.StateGraphs.{state_grammar}
use Rattle.ux_boxes.specs.Refusing.{IsFirst}
use Rattle.ux_admission.specs.ContextClose.{IsBadContext}
use Rattle.ux_state_places.proofs.AdmittedLaws.{all_inside, fit_now, context_found, none_found}
use Rattle.ux_state_places.proofs.admitted.refuse_contexts.Goals as goal

pub first_bad_context-requires-clause-inside : goal.first_bad_context-requires-clause-inside
first_bad_context-requires-clause-inside c =
    all_inside c.deref.result.now (fit_now c.deref.result.now c.args.placed.now.places.items
    c.deref.ensures.value c.requires.fit)

pub name_told-requires-clause-from : goal.name_told-requires-clause-from
name_told-requires-clause-from c =
    (context_found c.args.graphs.now c.args.placed.now.places.items c.args.placed.now.states.items
    c.args.placed.now.hubs.items c.requires.stand c.deref.result.now c.deref.ensures.value
    c.in_ok-spot.field-0 c.in-Some.spot c.in-Some.is c.in_ok-spot.ensures).from

pub name_told-requires-clause-to : goal.name_told-requires-clause-to
name_told-requires-clause-to c =
    (context_found c.args.graphs.now c.args.placed.now.places.items c.args.placed.now.states.items
    c.args.placed.now.hubs.items c.requires.stand c.deref.result.now c.deref.ensures.value
    c.in_ok-spot.field-0 c.in-Some.spot c.in-Some.is c.in_ok-spot.ensures).to

pub state_told-requires-clause-from : goal.state_told-requires-clause-from
state_told-requires-clause-from c =
    (context_found c.args.graphs.now c.args.placed.now.places.items c.args.placed.now.states.items
    c.args.placed.now.hubs.items c.requires.stand c.deref.result.now c.deref.ensures.value
    c.in_ok-spot.field-0 c.in-Some.spot c.in-Some.is c.in_ok-spot.ensures).from

pub state_told-requires-clause-to : goal.state_told-requires-clause-to
state_told-requires-clause-to c =
    (context_found c.args.graphs.now c.args.placed.now.places.items c.args.placed.now.states.items
    c.args.placed.now.hubs.items c.requires.stand c.deref.result.now c.deref.ensures.value
    c.in_ok-spot.field-0 c.in-Some.spot c.in-Some.is c.in_ok-spot.ensures).row

pub state_told-requires-clause-inside : goal.state_told-requires-clause-inside
state_told-requires-clause-inside c =
    (context_found c.args.graphs.now c.args.placed.now.places.items c.args.placed.now.states.items
    c.args.placed.now.hubs.items c.requires.stand c.deref.result.now c.deref.ensures.value
    c.in_ok-spot.field-0 c.in-Some.spot c.in-Some.is c.in_ok-spot.ensures).inside

pub returns-in_ok-name_told-in-Some-clause-err : goal.returns-in_ok-name_told-in-Some-clause-err
returns-in_ok-name_told-in-Some-clause-err c =
    let there = context_found c.args.graphs.now c.args.placed.now.places.items
    c.args.placed.now.states.items c.args.placed.now.hubs.items c.requires.stand
    c.deref.result.now c.deref.ensures.value c.in_ok-spot.field-0 c.in-Some.spot c.in-Some.is
    c.in_ok-spot.ensures in (
      c.in-Some.spot.graph,
      c.in_ok-name_told-in-Some.ensures,
      subst (λ (n : ℕ). IsFirst (IsBadContext (state_grammar c.args.graphs.now))
          c.in-Some.spot.graph n) (sym c.state_told.ensures) there.first,
    )

pub returns-in-None-clause-closed : goal.returns-in-None-clause-closed
returns-in-None-clause-closed c =
    none_found c.args.graphs.now c.args.placed.now.places.items c.args.placed.now.states.items
    c.args.placed.now.hubs.items c.requires.stand c.deref.result.now c.deref.ensures.value
    c.in_ok-spot.field-0 c.in-None.is c.in_ok-spot.ensures
