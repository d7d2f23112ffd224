use Rattle.std.proofs.Common.{◌≡◌, ◌↔◌, ℕ, ◌<◌, length, get_or, true}
use Rattle.ux_digraph.specs.Paths.{row_of}
use Rattle.ux_digraph.specs.Rules.{is_marked_at}
use Rattle.ux_inflect.specs.Surveys.{IsLevel}
use Rattle.ux_inflect.proofs.survey.on_cycles.Given as goal

-- the nodes so far are marked
abbrev pub invariant-loop-node : goal.invariant-loop-node
invariant-loop-node l = (length l.marks.items ≡ l.node) × ((u : ℕ) → u < l.node →
    (is_marked_at l.marks.items u ≡ true) ↔ IsLevel (row_of l.rows u) l.numbers (get_or l.numbers u 0))
