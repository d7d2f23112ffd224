use Rattle.std.proofs.Common.{◌≡◌, ◌++◌, ◌∙◌, ℕ, List, ap, map, subst, sym}
use Rattle.std.specs.Prelude.{Contains}
use Rattle.std.specs.List.Sorted.{IsNonDecreasingBy}
use Rattle.ux_walk.specs.declared.edge_index.Fitting.{Fitting}
use Rattle.ux_walk.specs.EdgeIndexes.{fits_at, number_of, place_of}
use Rattle.ux_walk.specs.LookUps.{AreEnough}
use Rattle.ux_walk.proofs.EdgeIndexLemmas.{index_enough}
use Rattle.ux_walk.proofs.edge_index.EdgeIndex.places.Goals as goal

pub returns : goal.returns
returns c alphabet texts edges text is numbered =
    let run = c.run.result.now in
    let rises : IsNonDecreasingBy number_of c.as_slice.result.now =
    subst (λ (l : List Fitting). IsNonDecreasingBy number_of l) (sym c.as_slice.ensures.value)
    is.ordered in
    let whole : c.extend_from_slice.new.self.items ≡ map place_of run ++
    c.args.self.now.others.items =
    c.in_ok-extend_from_slice.ensures.items
    ∙ (ap (λ (l : List ℕ). l ++ c.as_slice-2.result.now) c.in_ok-places.ensures
    ∙ ap (λ (l : List ℕ). map place_of run ++ l) c.as_slice-2.ensures.value) in
    subst (AreEnough alphabet text edges) (sym whole)
    (index_enough alphabet texts edges c.args.self.now is c.args.number text numbered run
    (λ place inside. c.run.ensures rises place
    (subst (λ (l : List Fitting). Contains l (fits_at c.args.number place))
    (sym c.as_slice.ensures.value) inside)))
