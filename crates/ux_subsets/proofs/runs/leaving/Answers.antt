use Rattle.std.proofs.Common.{ℕ, List, [], ◌∷◌, ◌++◌, ◌+◌, ◌↔◌, ◌∙◌, ◌≡◌, sym, ap, subst, take, get_or}
use Rattle.std.specs.Prelude.{Contains}
use Rattle.std.proofs.lemmas.List.{take_more, take_all}
use Rattle.ux_subsets.specs.declared.departures.Step.{Step}
use Rattle.ux_subsets.specs.Departures.{LeavesOne}
use Rattle.ux_subsets.specs.Paths.{link}
use Rattle.ux_subsets.proofs.RunsLemmas.{leaves_none, leaves_more}
use Rattle.ux_subsets.proofs.runs.leaving.Goals as goal

pub loop-state-init : goal.loop-state-init
loop-state-init c = λ links start e.
    leaves_more links [] c.args.set.now.first c.new-found.result.items c.put_all.new.found.items c.row.result.now c.in_ok-put_all.ensures
    (λ e. subst (λ (es : List Step). Contains es e ↔ Contains links (link c.args.set.now.first e.to e.reading)) (sym (c.row.ensures links start)) (start.exact c.args.set.now.first e))
    (leaves_none links c.new-found.result.items c.new-found.ensures.items) e

pub loop-state-preserved : goal.loop-state-preserved
loop-state-preserved c = λ links start e.
    let items = c.as_slice-state-items.result.now in
    let i = c.loop-state.state-index in
    let state = get_or items i 0 in
    let first = c.args.set.now.first in
    let more : first ∷ take (i + 1) items ≡ (first ∷ take i items) ++ state ∷ [] = ap (λ (xs : List ℕ). first ∷ xs) (take_more items i 0 c.loop-state-test.true) in
    subst (λ (xs : List ℕ). Contains c.put_all-in-loop-state.new.found.items e ↔ LeavesOne links xs e) (sym more)
    (leaves_more links (first ∷ take i items) state c.loop-state.found.items c.put_all-in-loop-state.new.found.items c.row-in-loop-state.result.now c.in_ok-put_all-2.ensures
    (λ e. subst (λ (es : List Step). Contains es e ↔ Contains links (link state e.to e.reading)) (sym (c.row-in-loop-state.ensures links start)) (start.exact state e))
    (c.loop-state.invariant links start) e)

pub returns : goal.returns
returns c = λ links start e.
    let items = c.as_slice-state-items.result.now in
    let first = c.args.set.now.first in
    let all : first ∷ take c.loop-state.state-index items ≡ first ∷ c.args.set.now.others.items =
    ap (λ (xs : List ℕ). first ∷ xs) (take_all c.loop-state.state-index items c.loop-state-test.false ∙ c.as_slice-state-items.ensures.value) in
    subst (λ (xs : List ℕ). Contains c.loop-state.found.items e ↔ LeavesOne links xs e) all (c.loop-state.invariant links start e)
