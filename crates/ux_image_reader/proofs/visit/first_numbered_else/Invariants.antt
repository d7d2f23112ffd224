use Rattle.std.proofs.Common.{◌≡◌}
use Rattle.std.specs.Prelude.{All}
use Rattle.ux_image_reader.specs.Visit.{visit_of}
use Rattle.ux_image_reader.specs.Visiting.{below, left_at_end, IsFrame}
use Rattle.ux_image_reader.proofs.visit.first_numbered_else.Given as goal

-- the states below the number were left, and what is left in the end is the visit
abbrev pub invariant-loop-number : goal.invariant-loop-number
invariant-loop-number l =
    All (IsFrame l.states) l.stack.items
    × (left_at_end l.states l.stack.items (below l.number) ≡ visit_of l.states)
