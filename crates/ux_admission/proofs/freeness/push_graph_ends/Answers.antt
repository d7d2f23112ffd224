use Rattle.std.proofs.Common.{◌≡◌, ◌+◌, length}
use Rattle.ux_boxes.specs.Places.{IsEndPlace}
use Rattle.ux_admission.proofs.GainsLemmas.{gains_next, gains_done}
use Rattle.ux_admission.proofs.WaysExact.{gains_places}
use Rattle.ux_admission.proofs.freeness.push_graph_ends.Goals as goal

pub loop-n-preserved : goal.loop-n-preserved
loop-n-preserved c =
    gains_next c.args.ends.now.items c.loop-n.ends.items c.push_end.new.ends.items c.loop-n.n
    (λ n x. IsEndPlace c.args.places.now n × (c.args.base + n ≡ x))
    c.loop-n.invariant c.in_ok-push_end.ensures

pub returns : goal.returns
returns c =
    gains_places c.args.places.now c.args.base c.args.ends.now.items c.loop-n.ends.items
    (gains_done c.args.ends.now.items c.loop-n.ends.items c.loop-n.n (length c.args.places.now)
    (λ n x. IsEndPlace c.args.places.now n × (c.args.base + n ≡ x))
    c.loop-n.auto.n-end c.loop-n-test.false c.loop-n.invariant)
