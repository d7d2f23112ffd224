use Rattle.std.proofs.Common.{◌≡◌, ◌↔◌, ◌<◌, ℕ, suc, IsTrue, false, get_or, length}
use Rattle.ux_net.specs.StateGraphs.{told_states}
use Rattle.ux_flatten.specs.Paths.{LeadsToEnd}
use Rattle.ux_flatten.proofs.words.words_of.Given as goal

-- the marks of the graphs so far
abbrev pub invariant-loop-graph : goal.invariant-loop-graph
invariant-loop-graph l = record {
  len : length l.marks.items ≡ l.graph-index;
  each : (k : ℕ) → k < l.graph-index →
      IsTrue (get_or l.marks.items k false) ↔ LeadsToEnd (told_states l.graphs (suc k));
}
