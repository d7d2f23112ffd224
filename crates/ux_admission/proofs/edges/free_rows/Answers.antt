use Rattle.std.proofs.Common.{◌∙◌, ◌<◌, ℕ, List, [], subst, sym}
use Rattle.std.specs.Prelude.{All}
use Rattle.ux_admission.specs.Gains.{Gains, SoOfOne}
use Rattle.ux_admission.specs.Spots.{IsFreePair}
use Rattle.ux_admission.proofs.EdgesLemmas.{free_pairs_inside, free_rows_are}
use Rattle.ux_admission.proofs.edges.free_rows.Goals as goal
use Rattle.ux_admission.proofs.edges.free_rows.Goals.{After-deref}

made : (c : After-deref) →
    Gains [] c.deref.result.now (SoOfOne c.args.ways.now (IsFreePair c.args.marks.now))
made c =
    subst (λ (pairs : List (ℕ × ℕ)).
    Gains [] pairs (SoOfOne c.args.ways.now (IsFreePair c.args.marks.now)))
    (sym c.deref.ensures.value)
    (subst (λ (pairs : List (ℕ × ℕ)). Gains pairs c.push_free_pairs.new.pairs.items
    (SoOfOne c.args.ways.now (IsFreePair c.args.marks.now))) c.new-pairs.ensures.items
    c.in_ok-push_free_pairs.ensures)

pub rows_of-requires : goal.rows_of-requires
rows_of-requires c = record {
  inside = subst (λ n. All (λ (p : ℕ × ℕ). p.0 < n) c.deref.result.now) (sym c.count_of.ensures)
      (free_pairs_inside c.args.graphs.now c.requires.fit c.args.ways.now c.requires.ways
      c.args.marks.now c.requires.marks c.deref.result.now (made c));
}

pub returns : goal.returns
returns c =
    free_rows_are c.args.graphs.now c.requires.fit c.args.ways.now c.requires.ways
    c.args.marks.now c.requires.marks c.deref.result.now (made (goal.at.returns c).After-deref)
    c.in_ok-rows.rows.items (c.in_ok-rows.ensures.len ∙ c.count_of.ensures)
    c.in_ok-rows.ensures.rows
