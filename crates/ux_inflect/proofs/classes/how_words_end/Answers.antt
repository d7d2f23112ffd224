use Rattle.std.proofs.Common.{arith, ◌≡◌, ◌∙◌, ℕ, ◌+◌, ◌<◌, ◌≤◌, List, [], ◌∷◌, ◌++◌, ap, get_or, length, subst, sym}
use Rattle.std.specs.Prelude.{Option, MatchOption}
use Rattle.ux_digraph.specs.Paths.{IsInside}
use Rattle.ux_inflect.specs.Cyclic.{call_rows, IsCyclic}
use Rattle.ux_inflect.specs.Endings.{AreRanksOf}
use Rattle.ux_inflect.specs.Surveys.{IsSurvey}
use Rattle.ux_inflect.proofs.EndingLemmas.{cyclic_there, ended, ended_more}
use Rattle.ux_inflect.proofs.RowsLemmas.{inner_inside}
use Rattle.ux_inflect.proofs.classes.how_words_end.Goals as goal

pub search_from-requires-clause-inside : goal.search_from-requires-clause-inside
search_from-requires-clause-inside c =
    subst IsInside (sym (c.deref.ensures.value ∙ c.in_ok-rows.ensures.rows))
    (inner_inside (call_rows c.args.net.now))

pub search_from-requires-clause-start : goal.search_from-requires-clause-start
search_from-requires-clause-start c =
    subst (λ (rows : List (List ℕ)). 1 < length rows) (sym c.deref.ensures.value)
    c.in_ok-rows.ensures.some

pub loop-before-init : goal.loop-before-init
loop-before-init c = (
  ap (λ (l : List (List ℕ)). length l) (c.in_ok-push.ensures.items
      ∙ ap (λ (l : List (List ℕ)). l ++ c.new-2.result ∷ []) c.new-states.ensures.items),
  λ g low high. absurd (omega arith),
)

pub loop-before-preserved : goal.loop-before-preserved
loop-before-preserved c =
    let net = c.args.net.now in
    let n = c.loop-before.before in
    let P : ℕ → List ℕ → Type 0 = λ g ranks. AreRanksOf net g ranks × (IsCyclic net g → ⊥) in
    let last : P (n + 1) c.in-Some.ranks = subst (λ (o : Option (List ℕ)). MatchOption o
    (IsCyclic net (n + 1)) (P (n + 1))) c.in-Some.is c.in_ok-ranks.ensures in
    subst (λ (states : List (List ℕ)). (length states ≡ n + 1 + 1)
    × ((g : ℕ) → 1 ≤ g → g ≤ n + 1 → P g (get_or states g [])))
    (sym c.in_ok-push-in-Some.ensures.items)
    (ended_more P c.loop-before.states.items n c.in-Some.ranks c.loop-before.invariant.0
    c.loop-before.invariant.1 last)

pub returns-in-None : goal.returns-in-None
returns-in-None c =
    let net = c.args.net.now in
    let n = c.loop-before.before in
    record {
      cyclic = subst (λ (o : Option (List ℕ)). MatchOption o (IsCyclic net (n + 1))
          (λ ranks. AreRanksOf net (n + 1) ranks × (IsCyclic net (n + 1) → ⊥)))
          c.in-None.is c.in_ok-ranks.ensures;
      first = λ h less cyclic.
          let t = cyclic_there net h cyclic in
          (c.loop-before.invariant.1 h t.0 (omega (arith, less))).1 cyclic;
    }

pub returns : goal.returns
returns c =
    let net = c.args.net.now in
    let calls = c.in_ok-calls.calls in
    ended net calls.reached.items calls.cyclic.items
    (record { calls = calls.ranks; states = c.loop-before.states })
    (subst (λ (rows : List (List ℕ)). IsSurvey rows 1 calls)
    (c.deref.ensures.value ∙ c.in_ok-rows.ensures.rows) c.in_ok-calls.ensures)
    (λ g low high. c.loop-before.invariant.1 g low (
    let count = c.graphs-before-end.ensures.count in
    omega (arith, count, high, c.loop-before-test.false)))
