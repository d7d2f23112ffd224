-- Paths are joined, and an edge begins at a node.
use Rattle.std.proofs.Common.{◌≢◌, ℕ, ◌<◌, List, [], length, refl, subst, inl, inr}
use Rattle.std.specs.Prelude.{Contains}
use Rattle.std.proofs.lemmas.List.{get_or_past}
use Rattle.ux_base.proofs.Lists.{nothing_in, less_or}
use Rattle.ux_digraph.specs.Paths.{row_of, Path, one, more, Reaches, here, step}

module _ (edges : List (List ℕ)) where
  -- a node past the last has no edge
  pub edge_from : (u v : ℕ) → Contains (row_of edges u) v → u < length edges
  edge_from u v h = elim (less_or u (length edges)) [
    | inl a ↦ a
    | inr p ↦ absurd (nothing_in {x = v}
        (subst (λ (row : List ℕ). Contains row v) (get_or_past edges u [] p) h))
  ]

  pub reaches_joined : {u v w : ℕ} → Reaches edges u v → Reaches edges v w → Reaches edges u w
  reaches_joined here q = q
  reaches_joined (step e p) q = step e (reaches_joined p q)

  pub reaches_then : {u v w : ℕ} → Reaches edges u v → Contains (row_of edges v) w →
      Reaches edges u w
  reaches_then here e = step e here
  reaches_then (step d p) e = step d (reaches_then p e)

  -- an edge and then any path
  pub edge_then : {u v w : ℕ} → Contains (row_of edges u) v → Reaches edges v w → Path edges u w
  edge_then e here = one e
  edge_then e (step d p) = more e (edge_then d p)

  -- what leads to another node has an edge
  pub path_apart : {u v : ℕ} → Reaches edges u v → u ≢ v → Path edges u v
  path_apart here n = absurd (n refl)
  path_apart (step e p) n = edge_then e p
