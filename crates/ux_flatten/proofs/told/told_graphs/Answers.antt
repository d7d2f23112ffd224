use Rattle.std.proofs.Common.{arith, ◌∙◌, sym}
use Rattle.std.proofs.lemmas.List.{length-map, take_all}
use Rattle.ux_net.specs.Whole.{told_graph}
use Rattle.ux_flatten.specs.Flattening.{told}
use Rattle.ux_flatten.proofs.ToldLemmas.{copied_more, told_next}
use Rattle.ux_flatten.proofs.told.told_graphs.Goals as goal

pub loop-before-preserved : goal.loop-before-preserved
loop-before-preserved c =
    let graphs = told c.args.net.now in
    copied_more graphs c.loop-before.graphs.items c.push.new.self.items c.loop-before.before
    c.in_ok-told_graph.field-0
    (sym (told_next graphs c.loop-before.before) ∙ c.in_ok-told_graph.ensures)
    c.loop-before.invariant c.in_ok-push.ensures.items

pub returns : goal.returns
returns c =
    let many = length-map c.args.net.now told_graph in
    record {
      graphs = c.loop-before.invariant
          ∙ take_all c.loop-before.before (told c.args.net.now)
          (omega (arith, many, c.graphs-before-end.ensures.count, c.loop-before-test.false));
      some = omega (arith, c.graphs-before-end.ensures.count, c.graphs-before-end.ensures.some);
    }
