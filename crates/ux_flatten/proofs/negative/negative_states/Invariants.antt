use Rattle.std.proofs.Common.{◌≡◌, ◌↔◌, ◌+◌, ◌<◌, ℕ, [], true, get_or, length}
use Rattle.ux_digraph.specs.Rules.{is_marked_at}
use Rattle.ux_net.specs.StateGraphs.{state_grammar, told_states}
use Rattle.ux_flatten.specs.Negative.{IsNegativeAt}
use Rattle.ux_flatten.proofs.negative.negative_states.Given as goal

-- the rows so far
abbrev pub invariant-loop-graph : goal.invariant-loop-graph
invariant-loop-graph l = record {
  count : length l.rows.items ≡ l.graph-index;
  row : (k a : ℕ) → k < l.graph-index → a < length (told_states l.graphs (k + 1)) →
      (is_marked_at (get_or l.rows.items k []) a ≡ true)
      ↔ IsNegativeAt (state_grammar l.graphs) (k + 1) a;
}
