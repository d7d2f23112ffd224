use Rattle.std.proofs.Common.{◌≡◌, ◌∙◌, ◌<◌, ◌↔◌, ℕ, List, subst, sym, map}
use Rattle.std.specs.Prelude.{All, Contains}
use Rattle.ux_digraph.specs.Paths.{row_of}
use Rattle.ux_admission.specs.Uses.{ends_of}
use Rattle.ux_admission.proofs.CircularLemmas.{ends_inside, link_rows_are}
use Rattle.ux_admission.proofs.negative_recursion.link_rows.Goals as goal
use Rattle.ux_admission.proofs.negative_recursion.link_rows.Goals.{After-deref}

made : (c : After-deref) → c.deref.result.now ≡ map ends_of c.args.links.now
made c = c.deref.ensures.value ∙ c.in_ok-pairs.ensures

pub rows_of-requires : goal.rows_of-requires
rows_of-requires c = record {
  inside = subst (λ (pairs : List (ℕ × ℕ)). All (λ (p : ℕ × ℕ). p.0 < c.count_of.result) pairs)
      (sym (made c))
      (subst (λ n. All (λ (p : ℕ × ℕ). p.0 < n) (map ends_of c.args.links.now))
      (sym c.count_of.ensures)
      (ends_inside c.args.graphs.now c.requires.fit c.args.links.now c.requires.links));
}

pub returns : goal.returns
returns c =
    link_rows_are c.args.graphs.now c.requires.fit c.args.links.now c.requires.links
    c.in_ok-rows.rows.items (c.in_ok-rows.ensures.len ∙ c.count_of.ensures)
    (subst (λ (pairs : List (ℕ × ℕ)).
    (u v : ℕ) → Contains (row_of c.in_ok-rows.rows.items u) v ↔ Contains pairs (u, v))
    (made (goal.at.returns c).After-deref) c.in_ok-rows.ensures.rows)
