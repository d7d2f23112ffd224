use Rattle.std.proofs.Common.{List, ℕ, subst}
use Rattle.ux_admission.specs.Gains.{Gains}
use Rattle.ux_admission.specs.Leading.{IsSource}
use Rattle.ux_admission.proofs.GainsLemmas.{gains_all}
use Rattle.ux_admission.proofs.leading.pairs_of.Goals as goal

pub returns : goal.returns
returns c = λ a b.
    gains_all c.push_pairs.new.pairs.items (λ p. IsSource c.args.places.now p.1 p.0)
    (subst (λ (pairs : List (ℕ × ℕ)). Gains pairs c.push_pairs.new.pairs.items
    (λ p. IsSource c.args.places.now p.1 p.0)) c.new-pairs.ensures.items
    c.in_ok-push_pairs.ensures) (b, a)
