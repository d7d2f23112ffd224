-- The strongly connected components of a graph, as a number for each node. Public: the crate's
-- public contracts speak of it.
use Rattle.std.specs.Prelude.{◌≡◌, ◌≢◌, ℕ, ◌<◌, ◌≤◌, List, length, get_or, Contains}
use Rattle.ux_digraph.specs.Paths.{row_of, Path}

-- nodes have one number where each leads to the other, and no number rises along an edge
pub record AreComponents (edges : List (List ℕ)) (numbers : List ℕ) : Type 0 where
  pub len : length numbers ≡ length edges
  pub below : (u : ℕ) → u < length edges → get_or numbers u 0 < length edges
  -- two nodes with one number lead to each other
  pub joined : (u v : ℕ) → u < length edges → v < length edges →
      get_or numbers u 0 ≡ get_or numbers v 0 → u ≢ v → Path edges u v × Path edges v u
  -- and nodes that lead to each other have one number
  pub apart : (u v : ℕ) → Path edges u v → Path edges v u → get_or numbers u 0 ≡ get_or numbers v 0
  -- no number rises along an edge
  pub falls : (u v : ℕ) → Contains (row_of edges u) v → get_or numbers v 0 ≤ get_or numbers u 0
