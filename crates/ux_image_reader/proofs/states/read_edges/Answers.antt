use Rattle.std.proofs.Common.{List, ◌≡◌, ◌≤◌, length, subst, arith}
use Rattle.std.proofs.lemmas.Result.{err_from_is_err_and}
use Rattle.ux_dawg.specs.declared.state.Edge.{Edge}
use Rattle.ux_image_reader.specs.Layout.{written_edge}
use Rattle.ux_image_reader.specs.Reading.{numbers_left, EdgePasses, ReadsEdges, Stops}
use Rattle.ux_image_reader.proofs.EdgesLemmas.{edges_more, edges_stop}
use Rattle.ux_image_reader.proofs.states.read_edges.Goals as goal

pub returns-in_err-edge-clause-err : goal.returns-in_err-edge-clause-err
returns-in_err-edge-clause-err c =
    let p = err_from_is_err_and c.from_residual.result c.from_residual.ensures.1 in
    let error = c.in_err-edge.field-0.0 in
    let numbers = numbers_left c.loop.cursor in
    rw (p.1, p.2) (edges_stop c.args.number c.args.many c.loop.counter c.args.offset error
    c.args.cursor.now c.loop.cursor c.loop.edges.items c.loop.invariant (omega arith)
    (subst (λ (l : List Edge).
    Stops (EdgePasses c.args.number l numbers) (2 ≤ length numbers) c.args.offset error)
    c.as_slice.ensures.value c.in_err-edge.ensures.err))

pub loop-preserved : goal.loop-preserved
loop-preserved c =
    edges_more c.args.number c.loop.counter c.args.cursor.now c.loop.cursor c.read_edge.new.cursor
    c.loop.edges.items c.push.new.self.items c.in_ok-edge.edge c.loop.invariant c.in_ok-edge.ensures.ok
    (subst (λ (l : List Edge).
    EdgePasses c.args.number l (written_edge c.in_ok-edge.edge))
    c.as_slice.ensures.value c.in_ok-edge.ensures.passed) c.in_ok-push.ensures.items

pub returns-clause-ok : goal.returns-clause-ok
returns-clause-ok c =
    let all : c.loop.counter ≡ c.args.many = omega arith in
    subst (λ i. ReadsEdges c.args.number i c.args.cursor.now c.loop.cursor c.loop.edges.items) all
    c.loop.invariant
