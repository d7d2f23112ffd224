use Rattle.std.proofs.Common.{ℕ, ◌<◌, length}
use Rattle.ux_digraph.specs.Paths.{row_of}
use Rattle.ux_digraph.specs.Checking.{AreBelow}
use Rattle.ux_digraph.proofs.checking.are_edges_inside.Given as goal

abbrev pub invariant-loop-row : goal.invariant-loop-row
invariant-loop-row l =
    (u : ℕ) → u < l.row-index → AreBelow (row_of l.edges u) (length l.edges)
