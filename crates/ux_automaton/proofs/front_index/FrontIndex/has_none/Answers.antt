use Rattle.std.proofs.Common.{◌≡◌, ◌++◌, ◌∙◌, [], List, ap, map, subst, sym}
use Rattle.std.specs.Prelude.{Contains}
use Rattle.std.specs.List.Sorted.{IsNonDecreasingBy}
use Rattle.ux_automaton.specs.declared.front_index.Fitting.{Fitting}
use Rattle.ux_automaton.specs.FrontIndexes.{AreLikely, number_of, stand_of}
use Rattle.ux_automaton.specs.Fronts.{HasStand}
use Rattle.ux_automaton.proofs.FrontIndexLemmas.{index_likely}
use Rattle.ux_automaton.proofs.front_index.FrontIndex.has_none.Goals as goal

pub returns : goal.returns
returns c masked text store front is numbered empty =
    let run = c.run.result.now in
    let others = c.args.self.now.others.items in
    let rises : IsNonDecreasingBy number_of c.as_slice-2.result.now =
    subst (λ (l : List Fitting). IsNonDecreasingBy number_of l) (sym c.as_slice-2.ensures.value)
    is.ordered in
    let none : others ≡ [] = sym c.as_slice.ensures.value ∙ c.are_none.ensures.others empty in
    let whole : map stand_of run ++ others ≡ [] =
    ap (λ (l : List Fitting). map stand_of l ++ others) (c.are_none.ensures.fittings empty) ∙ none in
    subst (AreLikely masked text (HasStand store front)) whole
    (index_likely masked text (HasStand store front) c.args.self.now is c.args.number numbered run
    (λ fitting inside. subst (λ (l : List Fitting). Contains l fitting) c.as_slice-2.ensures.value
    (c.run.ensures.among fitting inside))
    (λ fitting same inside. c.run.ensures.all rises fitting same
    (subst (λ (l : List Fitting). Contains l fitting) (sym c.as_slice-2.ensures.value) inside)))
