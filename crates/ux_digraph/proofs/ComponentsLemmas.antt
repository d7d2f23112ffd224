-- What the numbers of components say of cycles. Without a cycle the numbers fall along each edge,
-- and a node lies on a cycle where one of its edges stays in its component.
use Rattle.std.proofs.Common.{arith, ◌≡◌, ℕ, ◌<◌, List, refl, sym, ap, subst, ◌⊎◌, inl, inr, get_or, ◌↔◌}
use Rattle.std.specs.Prelude.{Contains}
use Rattle.ux_base.proofs.Lists.{same_or, less_or}
use Rattle.ux_digraph.proofs.PathsLemmas.{edge_from}
use Rattle.ux_digraph.specs.Paths.{row_of, Path, one, more, IsInside}
use Rattle.ux_digraph.specs.Components.{AreComponents}

module _ (edges : List (List ℕ)) (numbers : List ℕ) (inside : IsInside edges)
    (are : AreComponents edges numbers) where
  -- an edge leads to a node of the same component where it's a loop or a path leads back
  pub edge_back : (u v : ℕ) → Contains (row_of edges u) v →
      (get_or numbers u 0 ≡ get_or numbers v 0) ↔ ((u ≡ v) ⊎ Path edges v u)
  edge_back u v c = (
    λ same. elim (same_or u v) [
      | inl e ↦ inl e
      | inr n ↦ inr (are.joined u v (edge_from edges u v c) (inside.inside u v c) same n).1
    ],
    λ back. elim back [
      | inl e ↦ ap (λ n. get_or numbers n 0) e
      | inr p ↦ are.apart u v (one c) p
    ],
  )

  -- a node with an edge in its component lies on a cycle
  pub edge_in_component : (u v : ℕ) → Contains (row_of edges u) v →
      get_or numbers u 0 ≡ get_or numbers v 0 → Path edges u u
  edge_in_component u v c same = elim ((edge_back u v c).0 same) [
    | inl e ↦ one (subst (λ n. Contains (row_of edges u) n) (sym e) c)
    | inr p ↦ more c p
  ]

  -- a node on a cycle has an edge in its component
  pub cycle_has_edge : (u : ℕ) → Path edges u u →
      (v : ℕ) × Contains (row_of edges u) v × (get_or numbers v 0 ≡ get_or numbers u 0)
  cycle_has_edge u (one c) = (u, c, refl)
  cycle_has_edge u (more {v = v} c p) = (v, c, sym (are.apart u v (one c) p))

  -- with no cycle the numbers are ranks
  pub falls_strictly : ((u : ℕ) → Path edges u u → ⊥) → (u v : ℕ) →
      Contains (row_of edges u) v → get_or numbers v 0 < get_or numbers u 0
  falls_strictly acyclic u v c =
      let falls = are.falls u v c in
      elim (less_or (get_or numbers v 0) (get_or numbers u 0)) [
        | inl l ↦ l
        | inr l ↦ absurd (acyclic u (edge_in_component u v c (omega arith)))
      ]
