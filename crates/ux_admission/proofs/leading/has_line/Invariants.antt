use Rattle.std.proofs.Common.{◌≡◌, ℕ, ◌<◌, get_or, []}
use Rattle.ux_admission.specs.Lines.{mark_told}
use Rattle.ux_net.specs.Words.{mark_of}
use Rattle.ux_admission.proofs.leading.has_line.Given as goal

abbrev pub invariant-loop-line : goal.invariant-loop-line
invariant-loop-line l = (k : ℕ) → k < l.line-index → mark_of (get_or l.lines k []) ≡ mark_told l.mark → ⊥
