use Rattle.std.proofs.Common.{List, sym, subst, ℕ}
use Rattle.std.specs.Prelude.{All}
use Rattle.ux_boxes.specs.Splitting.{IsSplittableBox}
use Rattle.ux_boxes.proofs.SplitGraphs.{all_splittable}
use Rattle.ux_boxes.proofs.RefusingLemmas.{Given}
use Rattle.ux_compile.proofs.grammar.places_of.Goals as goal

pub split_graphs-requires-clause-splittable : goal.split_graphs-requires-clause-splittable
split_graphs-requires-clause-splittable c =
    subst (λ (names : List (List ℕ)).
    All (λ (graph : Given). All (IsSplittableBox names) graph.1.boxes) c.args.graphs.now)
    (sym c.in_ok-names.ensures)
    (all_splittable c.args.graphs.now c.in_ok-refuse_missing.ensures.ok
    c.in_ok-refuse_bad_masks.ensures.ok)
