use Rattle.std.proofs.Common.{ℕ, ◌<◌, get_or, []}
use Rattle.ux_admission.specs.Ways.{IsOpening}
use Rattle.ux_state_places.proofs.meeting.has_opening.Given as goal

-- none of the lines so far opens a context
abbrev pub invariant-loop-line : goal.invariant-loop-line
invariant-loop-line l = (k : ℕ) → k < l.line-index → IsOpening (get_or l.lines k []) → ⊥
