use Rattle.std.proofs.Common.{rules, ◌≡◌, ℕ, Some, None, Result, get_or, sym, subst}
use Rattle.std.specs.Prelude.{MatchResult}
use Rattle.std.proofs.lemmas.List.Sorted.{answers_always}
use Rattle.ux_net.specs.declared.net_graph.Closing.{Closing}
use Rattle.ux_net.specs.Closings.{closing_in}
use Rattle.ux_net.proofs.KeysLemmas.{searched}
use Rattle.ux_net.proofs.closings.told.Goals as goal

pub returns-in-Ok : goal.returns-in-Ok
returns-in-Ok c =
    let entries = c.args.entries.now in
    let state = c.args.state in
    let facts = c.binary_search_by_key.ensures in
    let by_key = facts.position (λ (entry : Closing). entry.opening)
    (answers_always _ _ _ (λ f a r g called. search rules)) in
    sym (subst (λ (r : Result ℕ ℕ). MatchResult r
    (λ at. closing_in entries state
    ≡ Some (get_or entries at (record { opening = 0; closing = 0 })).closing)
    (λ at. closing_in entries state ≡ None)) c.in-Ok.is
    (searched (λ (e : Closing). e.opening) (λ (e : Closing). e.closing)
    (record { opening = 0; closing = 0 }) entries c.requires.by_opening state
    c.binary_search_by_key.result facts.bound by_key))

pub returns-in-Err : goal.returns-in-Err
returns-in-Err c =
    let entries = c.args.entries.now in
    let state = c.args.state in
    let facts = c.binary_search_by_key.ensures in
    let by_key = facts.position (λ (entry : Closing). entry.opening)
    (answers_always _ _ _ (λ f a r g called. search rules)) in
    sym (subst (λ (r : Result ℕ ℕ). MatchResult r
    (λ at. closing_in entries state
    ≡ Some (get_or entries at (record { opening = 0; closing = 0 })).closing)
    (λ at. closing_in entries state ≡ None)) c.in-Err.is
    (searched (λ (e : Closing). e.opening) (λ (e : Closing). e.closing)
    (record { opening = 0; closing = 0 }) entries c.requires.by_opening state
    c.binary_search_by_key.result facts.bound by_key))
