use Rattle.std.proofs.Common.{◌≡◌, ℕ, get_or}
use Rattle.ux_boxes.specs.Places.{place_targets}
use Rattle.ux_admission.specs.Gains.{Gains, SoBelow}
use Rattle.ux_admission.proofs.leading.push_targets.Given as goal

abbrev pub invariant-loop-target : goal.invariant-loop-target
invariant-loop-target l = Gains l.fn.pairs.items l.pairs.items (SoBelow l.target-index
    (λ k p. ◌≡◌ {A = ℕ × ℕ} (get_or (place_targets l.places l.n) k 0, l.n) p))
