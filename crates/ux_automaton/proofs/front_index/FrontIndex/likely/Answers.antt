use Rattle.std.proofs.Common.{◌≡◌, ◌++◌, ◌∙◌, List, ap, map, subst, sym}
use Rattle.std.specs.Prelude.{Contains}
use Rattle.std.specs.List.Sorted.{IsNonDecreasingBy}
use Rattle.ux_closure.specs.declared.stand.Stand.{Stand}
use Rattle.ux_automaton.specs.declared.front_index.Fitting.{Fitting}
use Rattle.ux_automaton.specs.FrontIndexes.{AreLikely, number_of, stand_of}
use Rattle.ux_automaton.specs.Fronts.{HasStand}
use Rattle.ux_automaton.proofs.FrontIndexLemmas.{index_likely}
use Rattle.ux_automaton.proofs.front_index.FrontIndex.likely.Goals as goal

pub returns : goal.returns
returns c masked text store front is numbered =
    let run = c.run.result.now in
    let rises : IsNonDecreasingBy number_of c.as_slice.result.now =
    subst (λ (l : List Fitting). IsNonDecreasingBy number_of l) (sym c.as_slice.ensures.value)
    is.ordered in
    let whole : c.extend_from_slice.new.self.items ≡ map stand_of run ++
    c.args.self.now.others.items =
    c.in_ok-extend_from_slice.ensures.items
    ∙ (ap (λ (l : List Stand). l ++ c.as_slice-2.result.now) c.in_ok-few.ensures
    ∙ ap (λ (l : List Stand). map stand_of run ++ l) c.as_slice-2.ensures.value) in
    subst (AreLikely masked text (HasStand store front)) (sym whole)
    (index_likely masked text (HasStand store front) c.args.self.now is c.args.number numbered run
    (λ fitting inside. subst (λ (l : List Fitting). Contains l fitting) c.as_slice.ensures.value
    (c.run.ensures.among fitting inside))
    (λ fitting same inside. c.run.ensures.all rises fitting same
    (subst (λ (l : List Fitting). Contains l fitting) (sym c.as_slice.ensures.value) inside)))
