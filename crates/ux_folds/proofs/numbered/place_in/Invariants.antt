use Rattle.std.proofs.Common.{◌≡◌, ◌<◌, ℕ, false, get_or}
use Rattle.ux_folds.proofs.numbered.place_in.Given as goal

-- it stands at none of the places so far
abbrev pub invariant-loop-place : goal.invariant-loop-place
invariant-loop-place g l = (k : ℕ) → k < l.place →
    g.T.PartialEq.eq l.value (get_or l.values k l.value) ≡ false
