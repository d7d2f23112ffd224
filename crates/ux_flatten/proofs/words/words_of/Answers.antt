use Rattle.std.proofs.Common.{arith, ap, length}
use Rattle.std.proofs.lemmas.List.{length_push}
use Rattle.ux_flatten.proofs.WordsLaw.{marks_more, some_state, stay_inside, words_told}
use Rattle.ux_flatten.proofs.words.words_of.Goals as goal

pub leads_to_end-requires-clause-some : goal.leads_to_end-requires-clause-some
leads_to_end-requires-clause-some c =
    some_state c.args.graphs.now c.loop-graph.graph-index c.graph-item.result c.loop-graph-test.true
    c.graph-item.is c.requires.inside c.as_slice.result.now c.as_slice.ensures

pub leads_to_end-requires-clause-inside : goal.leads_to_end-requires-clause-inside
leads_to_end-requires-clause-inside c =
    stay_inside c.args.graphs.now c.loop-graph.graph-index c.graph-item.result
    c.loop-graph-test.true c.graph-item.is c.requires.inside c.as_slice.result.now c.as_slice.ensures

pub loop-graph-preserved : goal.loop-graph-preserved
loop-graph-preserved c =
    let items = c.in_ok-push.ensures.items in
    record {
      len = omega (
        arith,
        ap length items,
        length_push c.loop-graph.marks.items c.in_ok-leads_to_end.field-0,
        c.loop-graph.invariant.len,
      );
      each = marks_more c.args.graphs.now c.loop-graph.graph-index c.graph-item.result
          c.loop-graph-test.true c.graph-item.is c.loop-graph.marks.items c.push.new.self.items
          c.in_ok-leads_to_end.field-0 c.as_slice.result.now c.as_slice.ensures
          c.loop-graph.invariant.len items c.loop-graph.invariant.each c.in_ok-leads_to_end.ensures;
    }

pub returns : goal.returns
returns c =
    let all = c.loop-graph.auto.graph-index-end in
    words_told c.args.graphs.now c.requires.closed c.loop-graph.marks.items
    (omega (arith, c.loop-graph.invariant.len, all, c.loop-graph-test.false))
    (λ k lt. c.loop-graph.invariant.each k (omega (arith, all, c.loop-graph-test.false, lt)))
