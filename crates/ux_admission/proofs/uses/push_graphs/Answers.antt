use Rattle.std.proofs.Common.{◌+◌, length}
use Rattle.ux_admission.specs.Uses.{IsLinkIn}
use Rattle.ux_admission.proofs.GainsLemmas.{gains_next, gains_done}
use Rattle.ux_admission.proofs.uses.push_graphs.Goals as goal

pub loop-k-preserved : goal.loop-k-preserved
loop-k-preserved c =
    gains_next c.args.links.now.items c.loop-k.links.items c.push_graph.new.links.items c.loop-k.k
    (λ k. IsLinkIn c.args.graphs.now (k + 1)) c.loop-k.invariant c.in_ok-push_graph.ensures

pub returns : goal.returns
returns c =
    gains_done c.args.links.now.items c.loop-k.links.items c.loop-k.k (length c.args.graphs.now)
    (λ k. IsLinkIn c.args.graphs.now (k + 1)) c.loop-k.auto.k-end c.loop-k-test.false
    c.loop-k.invariant
