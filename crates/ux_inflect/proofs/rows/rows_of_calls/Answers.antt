use Rattle.std.proofs.Common.{◌∙◌, ℕ, ◌+◌, ◌<◌, List, [], ◌∷◌, ◌++◌, ap, filter, length, map, subst, sym, take}
use Rattle.std.specs.Prelude.{nat_lt}
use Rattle.std.specs.List.{flat_map}
use Rattle.ux_net.specs.Nets.{states_of}
use Rattle.ux_inflect.specs.Cyclic.{calls_of, calls_of_state}
use Rattle.ux_inflect.proofs.ListLemmas.{graph_more}
use Rattle.ux_inflect.proofs.rows.rows_of_calls.Goals as goal

pub loop-before-preserved : goal.loop-before-preserved
loop-before-preserved c =
    let net = c.args.net.now in
    let n = c.loop-before.before in
    let count = c.graphs-count.ensures.count in
    let row = c.new-in-loop-before.ensures ∙ (c.in_ok-row.ensures
    ∙ ap (λ (m : ℕ). filter (λ called. nat_lt called (m + 1))
    (flat_map calls_of_state (states_of net (n + 1)))) count) in
    c.in_ok-push-2.ensures.items
    ∙ (ap (λ (l : List (List ℕ)). l ++ c.new-in-loop-before.result ∷ []) c.loop-before.invariant
    ∙ (ap (λ (r : List ℕ). ([] ∷ map (filter (λ end. nat_lt end (length net + 1)))
    (map calls_of (take n net))) ++ r ∷ []) row
    ∙ ap (λ (l : List (List ℕ)). [] ∷ l) (sym (graph_more (λ end. nat_lt end (length net + 1)) net n
    (subst (λ m. n < m) count c.loop-before-test.true)))))
