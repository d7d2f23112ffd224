use Rattle.std.proofs.Common.{arith, ap, subst, ◌≡◌, ◌<◌, ◌+◌, ◌∙◌, ◌^◌, ℕ, List, length, get_or, take}
use Rattle.ux_fst2_file.specs.Files.{line_count}
use Rattle.ux_fst2_file.specs.Labels.{FitsGraph, IsBadState, StopLabels, StopGraphLabels, limits_of}
use Rattle.ux_fst2_file.specs.declared.file.Fst2Graph.{Fst2Graph}
use Rattle.ux_fst2_file.specs.declared.file.Fst2File.{Fst2File}
use Rattle.ux_fst2_file.proofs.LabelLemmas.{AllBelow, below_more, stop_in, stop_within, line_count_more, line_count_part}
use Rattle.ux_fst2_file.proofs.labels.bad_label.Goals as goal

module _ (file : Fst2File) (graphs : List Fst2Graph) (is : graphs ≡ file.graphs) (i before : ℕ)
    (graph : Fst2Graph) (lt : i < length graphs) (here : graph ≡ get_or graphs i graph)
    (fit : AllBelow (FitsGraph file) graphs i) (lines : before ≡ line_count (take i graphs) + 1)
  where
    states_here : length graph.states ≡ length (get_or graphs i graph).states
    states_here = ap (λ (g : Fst2Graph). length g.states) here

    -- the lines before the next graph
    lines_more : before + (length graph.states + 2) ≡ line_count (take (i + 1) graphs) + 1
    lines_more = omega (arith, lines, states_here, line_count_more graphs i graph lt)

    fit_more : FitsGraph file graph → AllBelow (FitsGraph file) graphs (i + 1)
    fit_more fits =
        below_more (FitsGraph file) graphs i graph lt fit
        (subst (λ (g : Fst2Graph). FitsGraph file g) here fits)

    -- the line of a state of this graph has a number below 2^63
    line_fits : (place : ℕ) → IsBadState (limits_of file graph) graph.states place →
        line_count file.graphs + 1 < 2 ^ 63 → before + 2 + place < 2 ^ 63
    line_fits place bad counted =
        omega (
          arith,
          lines_more,
          counted,
          ap line_count is,
          line_count_part graphs (i + 1),
          stop_within (limits_of file graph) 0 graph.states (0 + place) (bad 0),
        )

    -- and the first of the file
    line_stops : (place : ℕ) → IsBadState (limits_of file graph) graph.states place →
        StopGraphLabels file 2 file.graphs (before + 2 + place)
    line_stops place bad =
        let number = 2 + line_count (take i graphs) + 1 in
        let e : number + place ≡ before + 2 + place = omega (arith, lines) in
        subst (λ (gs : List Fst2Graph). StopGraphLabels file 2 gs (before + 2 + place)) is
        (stop_in file graphs i 2 (before + 2 + place) graph lt fit
        (subst (λ (g : Fst2Graph). StopLabels (limits_of file g) number g.states
        (before + 2 + place)) here
        (subst (λ n. StopLabels (limits_of file graph) number graph.states n) e (bad number))))

pub overflow_add-result-in-Some : goal.overflow_add-result-in-Some
overflow_add-result-in-Some c =
    let most = line_fits c.args.text.now.file c.as_slice-graphs.result.now c.as_slice-graphs.ensures
    c.loop-graph.graph-index c.loop-graph.before c.graph-item.result c.loop-graph-test.true
    c.graph-item.is c.loop-graph.invariant.fit c.loop-graph.invariant.lines c.in-Some.place
    c.in-Some.ensures c.args.text.now.counted in
    omega (arith, most)

pub returns-in-Some : goal.returns-in-Some
returns-in-Some c =
    line_stops c.args.text.now.file c.as_slice-graphs.result.now c.as_slice-graphs.ensures
    c.loop-graph.graph-index c.loop-graph.before c.graph-item.result c.loop-graph-test.true
    c.graph-item.is c.loop-graph.invariant.fit c.loop-graph.invariant.lines c.in-Some.place
    c.in-Some.ensures

pub loop-graph-preserved : goal.loop-graph-preserved
loop-graph-preserved c = record {
  fit = fit_more c.args.text.now.file c.as_slice-graphs.result.now c.as_slice-graphs.ensures
      c.loop-graph.graph-index c.loop-graph.before c.graph-item.result c.loop-graph-test.true
      c.graph-item.is c.loop-graph.invariant.fit c.loop-graph.invariant.lines c.in_default.ensures;
  lines = ap (λ n. c.loop-graph.before + (n + 2)) (ap length c.as_slice.ensures)
      ∙ lines_more c.args.text.now.file c.as_slice-graphs.result.now c.as_slice-graphs.ensures
      c.loop-graph.graph-index c.loop-graph.before c.graph-item.result c.loop-graph-test.true
      c.graph-item.is c.loop-graph.invariant.fit c.loop-graph.invariant.lines;
}
