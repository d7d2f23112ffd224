use Rattle.std.proofs.Common.{rules, ◌≡◌, ℕ, ◌↔◌, Some, None, Result, get_or, subst}
use Rattle.std.specs.Prelude.{Contains, MatchResult}
use Rattle.std.proofs.lemmas.List.Sorted.{answers_always}
use Rattle.ux_dawg.specs.declared.state.Edge.{Edge}
use Rattle.ux_dawg.specs.Paths.{edge}
use Rattle.ux_dawg.proofs.HalvingLemmas.{no_edge, searched}
use Rattle.ux_dawg.proofs.states.target_of.Goals as goal

pub returns-in-Ok : goal.returns-in-Ok
returns-in-Ok c t =
    let edges = c.args.edges.now in
    let facts = c.binary_search_by_key.ensures in
    let by_key = facts.position (λ (e : Edge). e.letter)
    (answers_always _ _ _ (λ f a r g called. search rules)) in
    subst (λ (r : Result ℕ ℕ). MatchResult r
    (λ at. (Some (get_or edges at no_edge).target ≡ Some t) ↔ Contains edges (edge c.args.letter t))
    (λ at. (None ≡ Some t) ↔ Contains edges (edge c.args.letter t))) c.in-Ok.is
    (searched edges c.requires c.args.letter c.binary_search_by_key.result facts.bound by_key t)

pub returns-in-Err : goal.returns-in-Err
returns-in-Err c t =
    let edges = c.args.edges.now in
    let facts = c.binary_search_by_key.ensures in
    let by_key = facts.position (λ (e : Edge). e.letter)
    (answers_always _ _ _ (λ f a r g called. search rules)) in
    subst (λ (r : Result ℕ ℕ). MatchResult r
    (λ at. (Some (get_or edges at no_edge).target ≡ Some t) ↔ Contains edges (edge c.args.letter t))
    (λ at. (None ≡ Some t) ↔ Contains edges (edge c.args.letter t))) c.in-Err.is
    (searched edges c.requires c.args.letter c.binary_search_by_key.result facts.bound by_key t)
