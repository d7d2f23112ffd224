-- What the rows of the nodes that are reached tell: the cycles that are reached, and numbers that fall
-- where there is none.
use Rattle.std.proofs.Common.{◌≡◌, ◌↔◌, ℕ, ◌<◌, List, [], sym, ◌∙◌, subst, get_or, inl, inr, Bool, true, cond}
use Rattle.std.specs.Prelude.{Contains}
use Rattle.std.proofs.lemmas.Bool.{cases_Bool}
use Rattle.ux_base.proofs.Lists.{nothing_in}
use Rattle.ux_digraph.specs.Components.{AreComponents}
use Rattle.ux_digraph.specs.Paths.{row_of, Path, one, more, Reaches, IsInside}
use Rattle.ux_digraph.specs.Rules.{is_marked_at}
use Rattle.ux_digraph.proofs.ComponentsLemmas.{edge_in_component, cycle_has_edge, falls_strictly}
use Rattle.ux_digraph.proofs.PathsLemmas.{reaches_then}
use Rattle.ux_inflect.specs.Surveys.{AreKept, IsLevel, IsSurveyOf}

module _ (rows : List (List ℕ)) (marks : List Bool) (kept : List (List ℕ)) (are : AreKept rows marks kept) where
  kept_edge : (u v : ℕ) → Contains (row_of kept u) v →
      (is_marked_at marks u ≡ true) × Contains (row_of rows u) v
  kept_edge u v c =
      let d = subst (λ (row : List ℕ). Contains row v) (are.row u) c in
      elim (cases_Bool (is_marked_at marks u)) [
        | inl is ↦ (
          is,
          subst
              (λ (b : Bool). Contains (cond b (row_of rows u) []) v) is d,
        )
        | inr is ↦ absurd (nothing_in (subst
            (λ (b : Bool). Contains (cond b (row_of rows u) []) v) is d))
      ]

  edge_kept : (u v : ℕ) → is_marked_at marks u ≡ true → Contains (row_of rows u) v →
      Contains (row_of kept u) v
  edge_kept u v is c = subst (λ (row : List ℕ). Contains row v) (sym (are.row u))
      (subst (λ (b : Bool). Contains (cond b (row_of rows u) []) v) (sym is) c)

  pub kept_inside : IsInside rows → IsInside kept
  kept_inside inside = record {
    inside = λ u v c. subst (λ n. v < n) (sym are.len) (inside.inside u v (kept_edge u v c).1);
  }

  path_kept_back : {u v : ℕ} → Path kept u v → Path rows u v
  path_kept_back {u = u} {v = v} (one c) = one (kept_edge u v c).1
  path_kept_back {u = u} (more {v = w} c p) = more (kept_edge u w c).1 (path_kept_back p)

  starts_marked : {u v : ℕ} → Path kept u v → is_marked_at marks u ≡ true
  starts_marked {u = u} {v = v} (one c) = (kept_edge u v c).0
  starts_marked {u = u} (more {v = w} c p) = (kept_edge u w c).0

  module _ (start : ℕ) (reached : (u : ℕ) → (is_marked_at marks u ≡ true) ↔ Reaches rows start u) where
    path_kept : {u v : ℕ} → Reaches rows start u → Path rows u v → Path kept u v
    path_kept {u = u} {v = v} r (one c) = one (edge_kept u v ((reached u).1 r) c)
    path_kept {u = u} r (more {v = w} c p) =
        more (edge_kept u w ((reached u).1 r) c) (path_kept (reaches_then rows r c) p)

    module _ (inside : IsInside rows) (numbers : List ℕ) (components : AreComponents kept numbers) where
      -- a node with an edge to its own number is one that is reached and lies on a cycle
      pub level_cycle : (u : ℕ) → IsLevel (row_of kept u) numbers (get_or numbers u 0) →
          Reaches rows start u × Path rows u u
      level_cycle u level =
          let p = edge_in_component kept numbers (kept_inside inside) components u level.0 level.1
          (sym level.2) in
          ((reached u).0 (starts_marked p), path_kept_back p)

      pub cycle_level : (u : ℕ) → Reaches rows start u → Path rows u u →
          IsLevel (row_of kept u) numbers (get_or numbers u 0)
      cycle_level u r p = cycle_has_edge kept numbers (kept_inside inside) components u (path_kept r p)

      -- with no such node the numbers fall
      pub numbers_fall : ((u : ℕ) → Reaches rows start u → Path rows u u → ⊥) → (u v : ℕ) →
          Reaches rows start u → Contains (row_of rows u) v → get_or numbers v 0 < get_or numbers u 0
      numbers_fall none u v r c = falls_strictly kept numbers (kept_inside inside) components
          (λ w p. none w ((reached w).0 (starts_marked p)) (path_kept_back p)) u v
          (edge_kept u v ((reached u).1 r) c)

      -- what is told of all nodes
      pub surveyed : (cycles : List Bool) → ((u : ℕ) → (is_marked_at cycles u ≡ true)
          ↔ IsLevel (row_of kept u) numbers (get_or numbers u 0)) →
          IsSurveyOf rows start marks cycles numbers
      surveyed cycles levels = record {
        reached = reached;
        cyclic = λ u. (
          λ is. level_cycle u ((levels u).0 is),
          λ (r, p). (levels u).1 (cycle_level u r p),
        );
        len = components.len ∙ are.len;
        falls = λ none u v r c.
            numbers_fall (λ w q p. none w ((levels w).1 (cycle_level w q p))) u v r c;
      }
