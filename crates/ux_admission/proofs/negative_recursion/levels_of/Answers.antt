use Rattle.std.proofs.Common.{List, ℕ, subst, sym}
use Rattle.ux_admission.specs.declared.uses.Link.{Link}
use Rattle.ux_admission.specs.Uses.{AreLinks, AreLinkNumbers, AreLevels}
use Rattle.ux_admission.proofs.CircularLemmas.{none_levels, none_recursive, first_recursive}
use Rattle.ux_admission.proofs.negative_recursion.levels_of.Goals as goal
use Rattle.ux_admission.proofs.negative_recursion.levels_of.Goals.{After-first_circular}

links_are : (c : After-first_circular) → AreLinks c.args.graphs.now c.deref-2.result.now
links_are c =
    subst (λ (links : List Link). AreLinks c.args.graphs.now links) (sym c.deref-2.ensures.value)
    c.in_ok-links.ensures

numbers_are : (c : After-first_circular) → AreLinkNumbers c.args.graphs.now c.deref-3.result.now
numbers_are c =
    subst (λ (numbers : List ℕ). AreLinkNumbers c.args.graphs.now numbers)
    (sym c.deref-3.ensures.value) c.in_ok-numbers.ensures

pub returns-in-Some-clause-cause : goal.returns-in-Some-clause-cause
returns-in-Some-clause-cause c =
    let at = (goal.at.returns-in-Some-clause-cause c).After-first_circular in
    first_recursive c.args.graphs.now c.requires.fit c.deref-2.result.now (links_are at)
    c.deref-3.result.now (numbers_are at) c.in-Some.graph c.in-Some.ensures

pub returns-clause-levels : goal.returns-clause-levels
returns-clause-levels c =
    let at = (goal.at.returns-clause-levels c).After-first_circular in
    subst (λ (numbers : List ℕ). AreLevels c.args.graphs.now numbers) c.deref-3.ensures.value
    (none_levels c.args.graphs.now c.requires.fit c.deref-2.result.now (links_are at)
    c.deref-3.result.now (numbers_are at) c.in-None.ensures)

pub returns-clause-none : goal.returns-clause-none
returns-clause-none c =
    let at = (goal.at.returns-clause-none c).After-first_circular in
    none_recursive c.args.graphs.now c.requires.fit c.deref-2.result.now (links_are at)
    c.deref-3.result.now (numbers_are at) c.in-None.ensures
