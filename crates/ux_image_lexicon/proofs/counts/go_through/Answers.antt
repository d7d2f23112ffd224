use Rattle.std.proofs.Common.{arith, ℕ, ◌-◌, ◌++◌, ◌∷◌, [], List, length, take, ap, subst, ◌∙◌}
use Rattle.ux_dawg.specs.declared.state.State.{State}
use Rattle.ux_image_lexicon.specs.Counting.{AreCountedBut}
use Rattle.ux_image_lexicon.specs.Walking.{forms_left}
use Rattle.ux_image_lexicon.specs.declared.walk.Branch.{Branch}
use Rattle.ux_image_lexicon.proofs.EnterLemmas.{all_counted, first_left, first_walk, gone_counted, gone_walk, gone_within}
use Rattle.ux_image_lexicon.proofs.VisitLemmas.{visits_counted, visits_less, visits_walk}
use Rattle.ux_image_lexicon.proofs.counts.go_through.Goals as goal

pub loop-branch-init : goal.loop-branch-init
loop-branch-init c =
    let coded = c.args.coded.now in
    let is = c.states.ensures.is in
    let walk = c.args.walk.now in
    let next = c.visit.new.walk in
    let old = c.args.counts.now in
    let new = c.visit.new.counts in
    let root = c.len-root.result - 1 in
    let last = ap (λ n. n - 1) c.len-root.ensures
    ∙ ap (λ (l : List State). length l - 1) c.states.ensures.value in
    let some = is.automaton.some in
    let going = first_walk coded is walk c.requires.branches in
    let left = first_left coded is old c.requires.counts walk c.requires.letters c.requires.branches
    root last in (
      visits_walk coded is root walk next old new (omega (arith, last, some)) c.in_ok-visit.ensures
          going left,
      visits_counted coded is root walk next old new (omega (arith, last, some))
          c.in_ok-visit.ensures going left,
    )

pub visit-requires-in-Some-clause-within : goal.visit-requires-in-Some-clause-within
visit-requires-in-Some-clause-within c =
    let going = c.loop-branch.invariant in
    let within = gone_within c.args.coded.now c.states.ensures.is c.loop-branch.walk
    c.go_to.new.self c.pop.new.self.branches.items c.in-Some.branch c.loop-branch.counts going.0
    going.1 c.in-Some.ensures.branches
    (c.in_ok-go_to.ensures.letters ∙ ap (λ (l : List ℕ).
    take c.in-Some.branch.depth l ++ c.in-Some.branch.letter ∷ []) c.in-Some.ensures.letters)
    c.in_ok-go_to.ensures.branches in
    omega (arith, within)

pub loop-branch-smaller : goal.loop-branch-smaller
loop-branch-smaller c =
    let going = c.loop-branch.invariant in
    visits_less c.args.coded.now c.states.ensures.is c.loop-branch.walk
    c.go_to.new.self c.pop.new.self.branches.items c.in-Some.branch c.loop-branch.counts going.0
    going.1 c.in-Some.ensures.branches
    (c.in_ok-go_to.ensures.letters ∙ ap (λ (l : List ℕ).
    take c.in-Some.branch.depth l ++ c.in-Some.branch.letter ∷ []) c.in-Some.ensures.letters)
    c.in_ok-go_to.ensures.branches c.visit-in-Some.new.walk
    c.visit-in-Some.new.counts c.in_ok-visit-2.ensures

pub loop-branch-preserved : goal.loop-branch-preserved
loop-branch-preserved c =
    let going = c.loop-branch.invariant in
    let coded = c.args.coded.now in
    let is = c.states.ensures.is in
    let walk = c.loop-branch.walk in
    let gone = c.go_to.new.self in
    let some = c.pop.new.self.branches.items in
    let b = c.in-Some.branch in
    let counts = c.loop-branch.counts in
    let to = c.in_ok-go_to.ensures.letters ∙ ap (λ (l : List ℕ).
    take b.depth l ++ b.letter ∷ []) c.in-Some.ensures.letters in
    let rest = c.in_ok-go_to.ensures.branches in
    let last = c.in-Some.ensures.branches in
    let within = gone_within coded is walk gone some b counts going.0 going.1 last to rest in
    let on = gone_walk coded is walk gone some b counts going.0 going.1 last to rest in
    let left = gone_counted coded is walk gone some b counts going.0 going.1 last to rest in
    let next = c.visit-in-Some.new.walk in
    let new = c.visit-in-Some.new.counts in (
      visits_walk coded is b.state gone next counts new (omega (arith, within))
          c.in_ok-visit-2.ensures on left,
      visits_counted coded is b.state gone next counts new (omega (arith, within))
          c.in_ok-visit-2.ensures on left,
    )

pub returns : goal.returns
returns c =
    let coded = c.args.coded.now in
    let walk = c.loop-branch.walk in
    all_counted coded c.states.ensures.is c.loop-branch.counts
    (subst (λ (l : List Branch). AreCountedBut coded c.loop-branch.counts
    (forms_left coded.states walk.letters.items l)) c.in_default.ensures.branches.0
    c.loop-branch.invariant.1)
