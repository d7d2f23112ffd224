-- Paths through a graph, which is the list of the rows of its nodes: where their edges lead.
-- Public: the crate's public contracts speak of it.
use Rattle.std.specs.Prelude.{ℕ, ◌<◌, List, [], length, get_or, Contains}

-- the nodes to which the edges of the node lead
abbrev pub row_of : List (List ℕ) → ℕ → List ℕ
row_of edges u = get_or edges u []

-- one or more edges lead from the first node to the second
pub data Path (edges : List (List ℕ)) : ℕ → ℕ → Type 0 where
  one : {u v : ℕ} → Contains (row_of edges u) v → Path edges u v
  more : {u v w : ℕ} → Contains (row_of edges u) v → Path edges v w → Path edges u w

-- no or more edges lead from the first node to the second
pub data Reaches (edges : List (List ℕ)) : ℕ → ℕ → Type 0 where
  here : {u : ℕ} → Reaches edges u u
  step : {u v w : ℕ} → Contains (row_of edges u) v → Reaches edges v w → Reaches edges u w

-- each edge leads to a node
pub record IsInside (edges : List (List ℕ)) : Type 0 where
  pub inside : (u v : ℕ) → Contains (row_of edges u) v → v < length edges
