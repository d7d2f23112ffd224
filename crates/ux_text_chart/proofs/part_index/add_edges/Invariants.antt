use Rattle.std.proofs.Common.{ℕ, List, take}
use Rattle.std.specs.Prelude.{Contains}
use Rattle.ux_net.specs.declared.state.Edge.{Edge}
use Rattle.ux_walk.specs.Literals.{AreReady}
use Rattle.ux_text_chart.specs.PartIndexes.{AreListed}
use Rattle.ux_text_chart.specs.declared.part_index.Beginning.{Beginning}
use Rattle.ux_text_chart.proofs.part_index.add_edges.Given as goal

-- the part was listed by the edges so far
abbrev pub invariant-loop-edge : goal.invariant-loop-edge
invariant-loop-edge l = record {
  kept : (b : Beginning) → Contains l.fn.beginnings.items b → Contains l.beginnings.items b;
  listed : (texts : List (List ℕ)) → AreReady l.alphabet texts l.words → (edge : Edge) →
      Contains (take l.edge-index l.edges) edge →
      AreListed l.alphabet texts l.beginnings.items l.part edge;
}
