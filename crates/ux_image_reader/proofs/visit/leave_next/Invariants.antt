use Rattle.std.proofs.Common.{◌≡◌, ◌++◌, ◌∷◌, []}
use Rattle.std.specs.Prelude.{All}
use Rattle.ux_image_reader.specs.Visiting.{below, left_at_end, IsFrame}
use Rattle.ux_image_reader.proofs.visit.leave_next.Given as goal

-- the way down so far leaves the same states in the end
abbrev pub invariant-loop-behind : goal.invariant-loop-behind
invariant-loop-behind l =
    IsFrame l.states l.frame × All (IsFrame l.states) l.stack.items
    × (left_at_end l.states (l.initial.stack.items ++ l.initial.frame ∷ []) (below l.left)
    ≡ left_at_end l.states (l.stack.items ++ l.frame ∷ []) (below l.left))

abbrev pub decreases-loop-behind : goal.decreases-loop-behind
decreases-loop-behind l = l.frame.state
