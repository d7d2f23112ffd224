use Rattle.std.proofs.Common.{◌≡◌, ℕ, ◌<◌, [], length, cond}
use Rattle.ux_digraph.specs.Paths.{row_of}
use Rattle.ux_digraph.specs.Rules.{is_marked_at}
use Rattle.ux_inflect.proofs.survey.kept_rows.Given as goal

-- the rows so far are kept
abbrev pub invariant-loop-node : goal.invariant-loop-node
invariant-loop-node l = (length l.kept.items ≡ l.node) × ((u : ℕ) → u < l.node →
    row_of l.kept.items u ≡ cond (is_marked_at l.marks u) (row_of l.rows u) [])
