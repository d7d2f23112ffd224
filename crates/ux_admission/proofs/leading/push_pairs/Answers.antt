use Rattle.std.proofs.Common.{◌≡◌, length}
use Rattle.ux_admission.specs.Leading.{IsSource}
use Rattle.ux_admission.proofs.GainsLemmas.{gains_next, gains_done}
use Rattle.ux_admission.proofs.LeadingLemmas.{gains_pairs}
use Rattle.ux_admission.proofs.leading.push_pairs.Goals as goal

pub loop-n-preserved : goal.loop-n-preserved
loop-n-preserved c =
    gains_next c.args.pairs.now.items c.loop-n.pairs.items c.push_targets.new.pairs.items
    c.loop-n.n (λ n p. IsSource c.args.places.now n p.0 × (n ≡ p.1))
    c.loop-n.invariant c.in_ok-push_targets.ensures

pub returns : goal.returns
returns c =
    gains_pairs c.args.places.now c.args.pairs.now.items c.loop-n.pairs.items
    (gains_done c.args.pairs.now.items c.loop-n.pairs.items c.loop-n.n
    (length c.args.places.now) (λ n p. IsSource c.args.places.now n p.0 × (n ≡ p.1))
    c.loop-n.auto.n-end c.loop-n-test.false c.loop-n.invariant)
