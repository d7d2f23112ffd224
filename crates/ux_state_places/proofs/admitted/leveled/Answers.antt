use Rattle.ux_state_places.proofs.AdmittedLaws.{negative_found, levels_found}
use Rattle.ux_state_places.proofs.admitted.leveled.Goals as goal

pub name_told-requires-clause-to : goal.name_told-requires-clause-to
name_told-requires-clause-to c =
    let e = c.in-Err-NegativeRecursion in
    (negative_found c.args.graphs.now c.args.placed.now.places.items c.args.placed.now.states.items
    c.args.placed.now.hubs.items c.requires.stand c.deref.result.now c.deref.ensures.value
    c.requires.inside e.field-0 e.graph e.field-0-is e.ensures.cause).to

pub name_told-requires-clause-from : goal.name_told-requires-clause-from
name_told-requires-clause-from c =
    let e = c.in-Err-NegativeRecursion in
    (negative_found c.args.graphs.now c.args.placed.now.places.items c.args.placed.now.states.items
    c.args.placed.now.hubs.items c.requires.stand c.deref.result.now c.deref.ensures.value
    c.requires.inside e.field-0 e.graph e.field-0-is e.ensures.cause).from

pub returns-in-Ok-clause-none : goal.returns-in-Ok-clause-none
returns-in-Ok-clause-none c =
    levels_found c.args.graphs.now c.args.placed.now.places.items c.args.placed.now.states.items
    c.args.placed.now.hubs.items c.requires.stand c.deref.result.now c.deref.ensures.value
    c.requires.inside c.in-Ok.ensures.none

pub returns-in_ok-name_told-in-Err-NegativeRecursion-clause-err :
    goal.returns-in_ok-name_told-in-Err-NegativeRecursion-clause-err
returns-in_ok-name_told-in-Err-NegativeRecursion-clause-err c =
    let e = c.in-Err-NegativeRecursion in
    let there = negative_found c.args.graphs.now c.args.placed.now.places.items
    c.args.placed.now.states.items c.args.placed.now.hubs.items c.requires.stand
    c.deref.result.now c.deref.ensures.value c.requires.inside e.field-0 e.graph e.field-0-is
    e.ensures.cause in
    (c.requires.closed, (e.graph, c.in_ok-name_told-in-Err-NegativeRecursion.ensures, there.first))
