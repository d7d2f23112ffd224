use Rattle.std.proofs.Common.{ℕ, List}
use Rattle.ux_walk.specs.Literals.{AreReady}
use Rattle.ux_walk.proofs.EdgeIndexLemmas.{AreIndexedBefore}
use Rattle.ux_walk.proofs.edge_index.EdgeIndex.of.Given as goal

-- the edges so far stand in the index
abbrev pub invariant-loop-place : goal.invariant-loop-place
invariant-loop-place l = (texts : List (List ℕ)) → AreReady l.alphabet texts l.words →
    AreIndexedBefore l.alphabet texts l.edges l.place l.fittings.items l.others.items
