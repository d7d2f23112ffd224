use Rattle.std.proofs.Common.{List, ◌∙◌, sym, subst, refl}
use Rattle.ux_subsets.specs.declared.departures.Step.{Step}
use Rattle.ux_subsets.specs.Departures.{AreSteps}
use Rattle.ux_subsets.specs.Building.{states_of}
use Rattle.ux_subsets.proofs.RunsLemmas.{row_of_one}
use Rattle.ux_subsets.proofs.expanding.expand.Goals as goal

pub returns-then-is_nothing-clause-expanded : goal.returns-then-is_nothing-clause-expanded
returns-then-is_nothing-clause-expanded g c = λ source start up.
    c.in_ok-all.ensures.expanded source (states_of c.args.set.now)
    (row_of_one source c.args.table.now.steps.items c.args.table.now.starts.items start c.args.set.now.first c.args.set.now.others.items c.row-steps.result.now (sym c.as_slice.ensures.value ∙ c.if-is_nothing.ensures.0 refl) (c.row-steps.ensures source start)) up

pub returns-then-is_nothing-clause-kept : goal.returns-then-is_nothing-clause-kept
returns-then-is_nothing-clause-kept g c = λ so source start up.
    c.in_ok-all.ensures.kept so source (states_of c.args.set.now)
    (row_of_one source c.args.table.now.steps.items c.args.table.now.starts.items start c.args.set.now.first c.args.set.now.others.items c.row-steps.result.now (sym c.as_slice.ensures.value ∙ c.if-is_nothing.ensures.0 refl) (c.row-steps.ensures source start)) up

pub returns-clause-expanded : goal.returns-clause-expanded
returns-clause-expanded g c = λ source start up.
    c.in_ok-all-2.ensures.expanded source (states_of c.args.set.now)
    (subst (λ (es : List Step). AreSteps source (states_of c.args.set.now) es) (sym c.as_slice-2.ensures.value) (c.in_ok-steps.ensures source start)) up

pub returns-clause-kept : goal.returns-clause-kept
returns-clause-kept g c = λ so source start up.
    c.in_ok-all-2.ensures.kept so source (states_of c.args.set.now)
    (subst (λ (es : List Step). AreSteps source (states_of c.args.set.now) es) (sym c.as_slice-2.ensures.value) (c.in_ok-steps.ensures source start)) up
