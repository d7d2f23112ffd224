use Rattle.ux_net.specs.declared.state.Edge.{Edge}
use Rattle.ux_text_chart.specs.PartIndexes.{AreListed}
use Rattle.ux_walk.proofs.EachLemmas.{each_all, each_next}
use Rattle.ux_text_chart.proofs.part_index.add_edges.Goals as goal

pub loop-edge-preserved : goal.loop-edge-preserved
loop-edge-preserved c =
    let new = c.add_edge.new.beginnings.items in
    let more = c.in_ok-add_edge.ensures.kept in
    record {
      kept = λ b h. more b (c.loop-edge.invariant.kept b h);
      listed = λ texts ready. each_next
          (λ (edge : Edge). AreListed c.args.alphabet.now texts new c.args.part edge)
          c.args.edges.now c.loop-edge.edge-index c.edge-item.result c.loop-edge-test.true
          c.edge-item.is
          (λ edge h token fits. more _ (c.loop-edge.invariant.listed texts ready edge h token fits))
          (c.in_ok-add_edge.ensures.listed texts ready);
    }

pub returns-clause-listed : goal.returns-clause-listed
returns-clause-listed c = λ texts ready. each_all
    (λ (edge : Edge). AreListed c.args.alphabet.now texts c.loop-edge.beginnings.items c.args.part
    edge) c.args.edges.now c.loop-edge.edge-index c.loop-edge-test.false
    (c.loop-edge.invariant.listed texts ready)
