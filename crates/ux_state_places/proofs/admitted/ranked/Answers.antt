use Rattle.std.proofs.Common.{sym, subst, ℕ}
use Rattle.ux_net.specs.StateGraphs.{state_grammar}
use Rattle.ux_boxes.specs.Refusing.{IsFirst}
use Rattle.ux_admission.specs.Admissible.{IsOnEmptyLoop, IsLeftRecursive}
use Rattle.ux_state_places.proofs.AdmittedLaws.{loop_found, recursion_found, admissible_found}
use Rattle.ux_state_places.proofs.admitted.ranked.Goals as goal

pub name_told-requires-clause-from : goal.name_told-requires-clause-from
name_told-requires-clause-from c =
    let e = c.in-Err-EmptyLoop in
    let there = loop_found c.args.graphs.now c.args.placed.now.places.items
    c.args.placed.now.states.items c.args.placed.now.hubs.items c.requires.stand
    c.deref.result.now c.deref.ensures.value e.field-0 e.graph e.node e.field-0-is
    e.ensures.cause in
    there.from

pub name_told-requires-in-Err-LeftRecursion-clause-from : goal.name_told-requires-in-Err-LeftRecursion-clause-from
name_told-requires-in-Err-LeftRecursion-clause-from c =
    let e = c.in-Err-LeftRecursion in
    let there = recursion_found c.args.graphs.now c.args.placed.now.places.items
    c.args.placed.now.states.items c.args.placed.now.hubs.items c.requires.stand
    c.deref.result.now c.deref.ensures.value c.requires.inside e.field-0 e.graph e.node
    e.field-0-is e.ensures.cause in
    there.0.from

pub name_told-requires-clause-to : goal.name_told-requires-clause-to
name_told-requires-clause-to c =
    let e = c.in-Err-EmptyLoop in
    let there = loop_found c.args.graphs.now c.args.placed.now.places.items
    c.args.placed.now.states.items c.args.placed.now.hubs.items c.requires.stand
    c.deref.result.now c.deref.ensures.value e.field-0 e.graph e.node e.field-0-is
    e.ensures.cause in
    there.to

pub name_told-requires-in-Err-LeftRecursion-clause-to : goal.name_told-requires-in-Err-LeftRecursion-clause-to
name_told-requires-in-Err-LeftRecursion-clause-to c =
    let e = c.in-Err-LeftRecursion in
    let there = recursion_found c.args.graphs.now c.args.placed.now.places.items
    c.args.placed.now.states.items c.args.placed.now.hubs.items c.requires.stand
    c.deref.result.now c.deref.ensures.value c.requires.inside e.field-0 e.graph e.node
    e.field-0-is e.ensures.cause in
    there.0.to

pub state_told-requires-clause-from : goal.state_told-requires-clause-from
state_told-requires-clause-from c =
    let e = c.in-Err-EmptyLoop in
    let there = loop_found c.args.graphs.now c.args.placed.now.places.items
    c.args.placed.now.states.items c.args.placed.now.hubs.items c.requires.stand
    c.deref.result.now c.deref.ensures.value e.field-0 e.graph e.node e.field-0-is
    e.ensures.cause in
    there.from

pub state_told-requires-in-Err-LeftRecursion-clause-from : goal.state_told-requires-in-Err-LeftRecursion-clause-from
state_told-requires-in-Err-LeftRecursion-clause-from c =
    let e = c.in-Err-LeftRecursion in
    let there = recursion_found c.args.graphs.now c.args.placed.now.places.items
    c.args.placed.now.states.items c.args.placed.now.hubs.items c.requires.stand
    c.deref.result.now c.deref.ensures.value c.requires.inside e.field-0 e.graph e.node
    e.field-0-is e.ensures.cause in
    there.0.from

pub state_told-requires-clause-to : goal.state_told-requires-clause-to
state_told-requires-clause-to c =
    let e = c.in-Err-EmptyLoop in
    let there = loop_found c.args.graphs.now c.args.placed.now.places.items
    c.args.placed.now.states.items c.args.placed.now.hubs.items c.requires.stand
    c.deref.result.now c.deref.ensures.value e.field-0 e.graph e.node e.field-0-is
    e.ensures.cause in
    there.row

pub state_told-requires-in-Err-LeftRecursion-clause-to : goal.state_told-requires-in-Err-LeftRecursion-clause-to
state_told-requires-in-Err-LeftRecursion-clause-to c =
    let e = c.in-Err-LeftRecursion in
    let there = recursion_found c.args.graphs.now c.args.placed.now.places.items
    c.args.placed.now.states.items c.args.placed.now.hubs.items c.requires.stand
    c.deref.result.now c.deref.ensures.value c.requires.inside e.field-0 e.graph e.node
    e.field-0-is e.ensures.cause in
    there.0.row

pub state_told-requires-clause-inside : goal.state_told-requires-clause-inside
state_told-requires-clause-inside c =
    let e = c.in-Err-EmptyLoop in
    let there = loop_found c.args.graphs.now c.args.placed.now.places.items
    c.args.placed.now.states.items c.args.placed.now.hubs.items c.requires.stand
    c.deref.result.now c.deref.ensures.value e.field-0 e.graph e.node e.field-0-is
    e.ensures.cause in
    there.inside

pub state_told-requires-in-Err-LeftRecursion-clause-inside : goal.state_told-requires-in-Err-LeftRecursion-clause-inside
state_told-requires-in-Err-LeftRecursion-clause-inside c =
    let e = c.in-Err-LeftRecursion in
    let there = recursion_found c.args.graphs.now c.args.placed.now.places.items
    c.args.placed.now.states.items c.args.placed.now.hubs.items c.requires.stand
    c.deref.result.now c.deref.ensures.value c.requires.inside e.field-0 e.graph e.node
    e.field-0-is e.ensures.cause in
    there.0.inside

pub returns-in-Ok-clause-admissible : goal.returns-in-Ok-clause-admissible
returns-in-Ok-clause-admissible c =
    admissible_found c.args.graphs.now c.args.placed.now.places.items
    c.args.placed.now.states.items c.args.placed.now.hubs.items c.requires.stand
    c.deref.result.now c.deref.ensures.value c.requires.inside c.in-Ok.ensures.admissible

pub returns-in_ok-name_told-in-Err-EmptyLoop-clause-err : goal.returns-in_ok-name_told-in-Err-EmptyLoop-clause-err
returns-in_ok-name_told-in-Err-EmptyLoop-clause-err c =
    let e = c.in-Err-EmptyLoop in
    let there = loop_found c.args.graphs.now c.args.placed.now.places.items
    c.args.placed.now.states.items c.args.placed.now.hubs.items c.requires.stand
    c.deref.result.now c.deref.ensures.value e.field-0 e.graph e.node e.field-0-is
    e.ensures.cause in (
      c.requires.contexts,
      (
        e.graph,
        c.in_ok-name_told-in-Err-EmptyLoop.ensures,
        subst (λ (n : ℕ). IsFirst (IsOnEmptyLoop (state_grammar c.args.graphs.now)) e.graph n)
            (sym c.state_told.ensures) there.first,
      ),
    )

pub returns-in_ok-name_told-in-Err-LeftRecursion-clause-err : goal.returns-in_ok-name_told-in-Err-LeftRecursion-clause-err
returns-in_ok-name_told-in-Err-LeftRecursion-clause-err c =
    let e = c.in-Err-LeftRecursion in
    let there = recursion_found c.args.graphs.now c.args.placed.now.places.items
    c.args.placed.now.states.items c.args.placed.now.hubs.items c.requires.stand
    c.deref.result.now c.deref.ensures.value c.requires.inside e.field-0 e.graph e.node
    e.field-0-is e.ensures.cause in (
      c.requires.contexts,
      there.1,
      (
        e.graph,
        c.in_ok-name_told-in-Err-LeftRecursion.ensures,
        subst (λ (n : ℕ). IsFirst (IsLeftRecursive (state_grammar c.args.graphs.now)) e.graph n)
            (sym c.state_told-in-Err-LeftRecursion.ensures) there.0.first,
      ),
    )
