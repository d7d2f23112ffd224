use Rattle.std.proofs.Common.{◌+◌, length}
use Rattle.ux_admission.specs.Ways.{IsWayOf}
use Rattle.ux_admission.proofs.GainsLemmas.{gains_next, gains_done}
use Rattle.ux_admission.proofs.WaysExact.{gains_graphs}
use Rattle.ux_admission.proofs.ways.push_graphs.Goals as goal

pub loop-k-preserved : goal.loop-k-preserved
loop-k-preserved c =
    gains_next c.args.ways.now.items c.loop-k.ways.items c.push_graph.new.ways.items c.loop-k.k
    (λ k. IsWayOf c.args.graphs.now (k + 1)) c.loop-k.invariant c.in_ok-push_graph.ensures

pub returns : goal.returns
returns c =
    gains_graphs c.args.graphs.now c.args.ways.now.items c.loop-k.ways.items
    (gains_done c.args.ways.now.items c.loop-k.ways.items c.loop-k.k (length c.args.graphs.now)
    (λ k. IsWayOf c.args.graphs.now (k + 1)) c.loop-k.auto.k-end c.loop-k-test.false
    c.loop-k.invariant)
