use Rattle.std.proofs.Common.{rules, ◌≡◌, ℕ, Some, None, Result, get_or, sym, ◌∙◌, ap, subst}
use Rattle.std.specs.Prelude.{MatchResult}
use Rattle.std.proofs.lemmas.List.{get_or_default}
use Rattle.std.proofs.lemmas.List.Sorted.{answers_always}
use Rattle.ux_net.specs.declared.net_graph.UnmetState.{UnmetState}
use Rattle.ux_net.specs.Whole.{unmet_in}
use Rattle.ux_net.proofs.KeysLemmas.{searched}
use Rattle.ux_net.proofs.WholeLemmas.{nothing}
use Rattle.ux_net.proofs.whole.kept_aside.Goals as goal

pub returns-in-Ok : goal.returns-in-Ok
returns-in-Ok c =
    let entries = c.args.entries.now in
    let state = c.args.state in
    let facts = c.binary_search_by_key.ensures in
    let by_key = facts.position (λ (entry : UnmetState). entry.number)
    (answers_always _ _ _ (λ f a r g called. search rules)) in
    let found = subst (λ (r : Result ℕ ℕ). MatchResult r
    (λ at. unmet_in entries state ≡ Some (get_or entries at nothing))
    (λ at. unmet_in entries state ≡ None)) c.in-Ok.is
    (searched (λ (e : UnmetState). e.number) (λ (e : UnmetState). e) nothing entries
    c.requires.1.ascend state c.binary_search_by_key.result facts.bound by_key) in
    sym (found ∙ ap (λ (e : UnmetState). Some e)
    (get_or_default entries c.in-Ok.at nothing c.index-entries-at.result c.in-Ok.ensures.bound
    ∙ sym c.index-entries-at.is))

pub returns-in-Err : goal.returns-in-Err
returns-in-Err c =
    let entries = c.args.entries.now in
    let state = c.args.state in
    let facts = c.binary_search_by_key.ensures in
    let by_key = facts.position (λ (entry : UnmetState). entry.number)
    (answers_always _ _ _ (λ f a r g called. search rules)) in
    sym (subst (λ (r : Result ℕ ℕ). MatchResult r
    (λ at. unmet_in entries state ≡ Some (get_or entries at nothing))
    (λ at. unmet_in entries state ≡ None)) c.in-Err.is
    (searched (λ (e : UnmetState). e.number) (λ (e : UnmetState). e) nothing entries
    c.requires.1.ascend state c.binary_search_by_key.result facts.bound by_key))
