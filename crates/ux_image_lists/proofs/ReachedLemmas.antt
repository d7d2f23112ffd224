-- Each state that the visit leaves is reached from the root, and each list is that of a state.
use Rattle.std.proofs.Common.{arith, ◌≡◌, ℕ, zero, suc, ◌+◌, ◌-◌, ◌<◌, ◌≤◌, max, List, [], ◌∷◌, ◌++◌, Bool, true, false, inl, inr, refl, sym, ◌∙◌, ap, subst, length, take, get_or}
use Rattle.std.specs.Prelude.{Contains, Option, None, Some, fold, nat_eq, slice_get}
use Rattle.std.specs.List.{list_any}
use Rattle.std.proofs.lemmas.Bool.{cases_eq, cases_lt}
use Rattle.std.proofs.lemmas.List.{take_all}
use Rattle.std.proofs.lemmas.List.Elements.{Contains-push_cases}
use Rattle.std.proofs.lemmas.Option.{get_or_from_slice_get, none-some, same_Some, slice_get_within}
use Rattle.ux_dawg.specs.Paths.{edge, IsStep, Leads, Right}
use Rattle.ux_dawg.specs.declared.state.Edge.{Edge}
use Rattle.ux_dawg.specs.declared.state.State.{State}
use Rattle.ux_dawg.proofs.PathLemmas.{behind, contains_at, got, in_front, is_some_of}
use Rattle.ux_image_reader.specs.Fronts.{AreAccepted}
use Rattle.ux_image_reader.specs.Layout.{final_number}
use Rattle.ux_image_reader.specs.Tests.{used_by, AllPass}
use Rattle.ux_image_reader.specs.Visit.{edges_at, left_after, visit_of}
use Rattle.ux_image_reader.proofs.StatesLemmas.{used_by-more}
use Rattle.ux_image_lists.proofs.DepthLemmas.{leads_push}

-- a way leads to the state
abbrev pub IsReached : List State → (root state : ℕ) → Type 0
IsReached states root state = (way : List ℕ) × Leads states root way state

-- an edge at a state is a step from it
step_of : (states : List State) (i : ℕ) (e : Edge) → Contains (edges_at states i) e →
    IsStep states i e.letter e.target
step_of [] i e has = absurd (none-some e (is_some_of [] e has).1)
step_of (s ∷ states) zero e has = (s, refl, has)
step_of (s ∷ states) (suc i) e has = step_of states i e has

module _ (states : List State) (root : ℕ) where
  abbrev AreReached : List ℕ → Type 0
  AreReached left = (k : ℕ) → Contains left k → IsReached states root k

  edges_reached : (depth : ℕ) →
      ((left : List ℕ) (i : ℕ) → AreReached left → IsReached states root i →
      AreReached (left_after depth states left i)) →
      (edges : List Edge) (left : List ℕ) → AreReached left →
      ((e : Edge) → Contains edges e → IsReached states root e.target) →
      AreReached (fold (λ so_far (e : Edge). left_after depth states so_far e.target) left edges)
  edges_reached depth each [] left are targets = are
  edges_reached depth each (e ∷ edges) left are targets =
      edges_reached depth each edges (left_after depth states left e.target)
      (each left e.target are (targets e (in_front e edges)))
      (λ d has. targets d (behind e edges d has))

  -- what was left once the edges of a state were followed
  abbrev made : ℕ → List ℕ → ℕ → List ℕ
  made depth left i =
      fold (λ so_far (e : Edge). left_after depth states so_far e.target) left (edges_at states i)

  -- what is left once a state is, was reached where the state and what was left before were
  left_reached : (depth : ℕ) (left : List ℕ) (i : ℕ) → AreReached left →
      IsReached states root i → AreReached (left_after depth states left i)
  unfolding left_after
  left_reached zero left i are is = are
  left_reached (suc depth) left i are is = by (list_any (nat_eq i) left) refl
      (edges_reached depth (left_reached depth) (edges_at states i) left are
      (λ e has. (
        is.0 ++ e.letter ∷ [],
        leads_push states is.0 root i e.letter e.target is.1 (step_of states i e has),
      )))
    where
      by : (b : Bool) → list_any (nat_eq i) left ≡ b → AreReached (made depth left i) →
          AreReached (left_after (suc depth) states left i)
      by true known all = rw known are
      by false new all =
          rw new (λ k has. elim (Contains-push_cases (made depth left i) i k has) [
            | inl before ↦ all k before
            | inr same ↦ subst (IsReached states root) same is
          ])

-- the states that are accepted are all reached
pub all_reached : (lists : ℕ) (states : List State) → AreAccepted lists states → (i : ℕ) →
    i < length states → IsReached states (length states - 1) i
all_reached lists states accepted i less =
    left_reached states (length states - 1) (length states) [] (length states - 1)
    (λ k none. absurd (none-some k (is_some_of [] k none).1)) ([], refl) i
    (contains_at (visit_of states) i i (by (slice_get (visit_of states) i) refl))
  where
    by : (o : Option ℕ) → slice_get (visit_of states) i ≡ o → slice_get (visit_of states) i ≡ Some i
    by None is = absurd (accepted.numbered i (record {
      within = less;
      else_left = λ at. none-some i (sym is ∙ at);
    }))
    by (Some k) is = elim (cases_eq k i) [
      | inl same ↦ is ∙ ap Some same
      | inr other ↦ absurd (accepted.numbered i (record {
        within = less;
        else_left = λ at. other (same_Some k i (sym is ∙ at));
      }))
    ]

-- a state of the first ones has each list that they use
used_at : (count lists : ℕ) (states : List State) → AllPass count lists states → (n list : ℕ) →
    n ≤ length states → list < used_by (take n states) →
    (i : ℕ) × (s : State) × (slice_get states i ≡ Some s) × (s.code ≡ Some list)
used_at count lists states all zero list inside less = absurd (omega (arith, less))
used_at count lists states all (suc n) list inside less =
    let s = got states n (omega (arith, inside)) in
    at s.0 s.1 (used_by-more states n s.0 (omega (arith, inside)) (got_is s.0 s.1))
    (λ before. used_at count lists states all n list (omega (arith, inside)) before)
  where
    got_is : (s : State) → slice_get states n ≡ Some s → s ≡ get_or states n s
    got_is s at = sym (get_or_from_slice_get states n s s at)

    code_of : (s : State) (code : Option ℕ) → s.code ≡ code → slice_get states n ≡ Some s →
        list < final_number code → final_number code ≤ used_by (take n states) + 1 →
        (list < used_by (take n states) → ⊥) →
        (i : ℕ) × (s : State) × (slice_get states i ≡ Some s) × (s.code ≡ Some list)
    code_of s None is at low next new = absurd (omega (arith, low))
    code_of s (Some k) is at low next new =
        (n, s, at, is ∙ ap Some (not_lower k low next (λ l. new l)))
      where
        not_lower : (k : ℕ) → list < k + 1 → k + 1 ≤ used_by (take n states) + 1 →
            (list < used_by (take n states) → ⊥) → k ≡ list
        not_lower k low next new = omega (arith, low, next, new)

    more_is : suc n ≡ n + 1
    more_is = omega arith

    at : (s : State) → slice_get states n ≡ Some s →
        used_by (take (n + 1) states) ≡ max (used_by (take n states)) (final_number s.code) →
        (list < used_by (take n states) →
        (i : ℕ) × (s : State) × (slice_get states i ≡ Some s) × (s.code ≡ Some list)) →
        (i : ℕ) × (s : State) × (slice_get states i ≡ Some s) × (s.code ≡ Some list)
    at s stands more so_far = elim (cases_lt list (used_by (take n states))) [
      | inl before ↦ so_far before
      | inr past ↦ code_of s s.code refl stands
          (let l = subst (λ k. list < used_by (take k states)) more_is less in
          omega (arith, more, past, l))
          (let pass = all n s stands in pass.0.next)
          (λ l. omega (arith, l, past))
    ]

pub list_used : (lists : ℕ) (states : List State) → AreAccepted lists states → (list : ℕ) →
    list < lists → (i : ℕ) × (s : State) × (slice_get states i ≡ Some s) × (s.code ≡ Some list)
list_used lists states accepted list less =
    used_at (length states) lists states accepted.passed (length states) list (omega arith)
    (let all : take (length states) states ≡ states =
    take_all (length states) states (omega arith) in
    let used = accepted.used in
    let same = ap used_by all in
    omega (arith, used, same, less))

-- a path is a way to a state that ends it
pub right_leads : (states : List State) (w : List ℕ) (i c : ℕ) (s : State) →
    slice_get states i ≡ Some s → Right states s w c →
    (j : ℕ) × (t : State) × (slice_get states j ≡ Some t) × Leads states i w j × (t.code ≡ Some c)
right_leads states [] i c s at right = (i, s, at, refl, right)
right_leads states (a ∷ w) i c s at right =
    let on = right_leads states w right.0 c right.1 right.3 right.4 in
    (on.0, on.1, on.2, (right.0, s, at, right.2, on.3), on.4)

pub leads_right : (states : List State) (w : List ℕ) (i j c : ℕ) (s t : State) →
    slice_get states i ≡ Some s → slice_get states j ≡ Some t → Leads states i w j →
    t.code ≡ Some c → Right states s w c
leads_right states [] i j c s t at end leads code =
    let same = same_Some s t (sym at ∙ ap (λ n. slice_get states n) leads ∙ end) in
    ap (λ (x : State). x.code) same ∙ code
leads_right states (a ∷ w) i j c s t at end leads code =
    let same = same_Some leads.1 s (sym leads.2 ∙ at) in
    let next = got states leads.0 (within w leads.0 leads.4) in (
      leads.0,
      next.0,
      subst (λ (x : State). Contains x.edges (edge a leads.0)) same leads.3,
      next.1,
      leads_right states w leads.0 j c next.0 t next.1 end leads.4 code,
    )
  where
    within : (u : List ℕ) (k : ℕ) → Leads states k u j → k < length states
    within [] k h = let low = slice_get_within states j t end in omega (arith, low, h)
    within (b ∷ u) k h = slice_get_within states k h.1 h.2
