use Rattle.std.proofs.Common.{◌∙◌, List, ap, arith, length}
use Rattle.ux_dawg.specs.declared.state.Edge.{Edge}
use Rattle.ux_dawg.specs.Flat.{between}
use Rattle.ux_dawg.proofs.FlatLemmas.{edges_nowhere, edges_there, part_within}
use Rattle.ux_dawg.proofs.states.States.edges.Goals as goal

pub part-requires-clause-order : goal.part-requires-clause-order
part-requires-clause-order c =
    let there = c.in-Some.ensures.lookup in
    let within = part_within c.self.inside.rows.items c.as_slice-rows.result.now
    c.self.inside.edges.items c.args.self.now c.args.number c.as_slice-rows.ensures.value c.self.view_is
    c.in-Some.row.now c.self.invariant there.3.0 there.1 in
    omega (arith, within.0)

pub part-requires-clause-within : goal.part-requires-clause-within
part-requires-clause-within c =
    let there = c.in-Some.ensures.lookup in
    let within = part_within c.self.inside.rows.items c.as_slice-rows.result.now
    c.self.inside.edges.items c.args.self.now c.args.number c.as_slice-rows.ensures.value c.self.view_is
    c.in-Some.row.now c.self.invariant there.3.0 there.1 in
    let same = ap (length {A = Edge}) c.as_slice.ensures.value in
    omega (arith, within.1, same)

pub returns-in-Some : goal.returns-in-Some
returns-in-Some c =
    let there = c.in-Some.ensures.lookup in
    c.part.ensures
    ∙ ap (λ (l : List Edge). between c.start_of.result c.in-Some.row.now.end l)
    c.as_slice.ensures.value
    ∙ ap (λ n. between n c.in-Some.row.now.end c.self.inside.edges.items) c.start_of.ensures
    ∙ edges_there c.self.inside.rows.items c.as_slice-rows.result.now c.self.inside.edges.items
    c.args.self.now c.args.number c.as_slice-rows.ensures.value c.self.view_is c.in-Some.row.now
    there.3.0 there.1

pub returns-in-None : goal.returns-in-None
returns-in-None c =
    edges_nowhere c.self.inside.rows.items c.as_slice-rows.result.now c.self.inside.edges.items
    c.args.self.now c.args.number c.as_slice-rows.ensures.value c.self.view_is c.in-None.ensures.lookup.3
