use Rattle.std.proofs.Common.{arith, ◌≡◌, ◌∙◌, ◌++◌, ◌∷◌, [], ℕ, List, ap, get_or, length, refl}
use Rattle.ux_boxes.specs.Places.{place_targets}
use Rattle.ux_admission.proofs.GainsLemmas.{gains_next, gains_one, gains_done}
use Rattle.ux_admission.proofs.LeadingLemmas.{gains_targets}
use Rattle.ux_admission.proofs.leading.push_targets.Goals as goal

pub loop-target-preserved : goal.loop-target-preserved
loop-target-preserved c =
    let n = c.args.n in
    let targets = place_targets c.args.places.now n in
    let k = c.loop-target.target-index in
    gains_next c.args.pairs.now.items c.loop-target.pairs.items c.push.new.self.items k
    (λ j p. ◌≡◌ {A = ℕ × ℕ} (get_or targets j 0, n) p) c.loop-target.invariant
    (gains_one c.loop-target.pairs.items c.push.new.self.items (get_or targets k 0, n)
    (λ p. ◌≡◌ {A = ℕ × ℕ} (get_or targets k 0, n) p)
    (c.in_ok-push.ensures.items
    ∙ ap (λ (ts : List ℕ). c.loop-target.pairs.items ++ (get_or ts k 0, n) ∷ [])
    c.targets_of-target-items.ensures) refl (λ p e. e))

pub returns : goal.returns
returns c =
    let targets = place_targets c.args.places.now c.args.n in
    let len = ap (λ (ts : List ℕ). length ts) c.targets_of-target-items.ensures in
    gains_targets c.args.places.now c.args.pairs.now.items c.loop-target.pairs.items c.args.n
    c.if-n-eq1.false
    (gains_done c.args.pairs.now.items c.loop-target.pairs.items c.loop-target.target-index
    (length targets) (λ k p. ◌≡◌ {A = ℕ × ℕ} (get_or targets k 0, c.args.n) p)
    (omega (arith, len)) (omega (arith, len)) c.loop-target.invariant)
