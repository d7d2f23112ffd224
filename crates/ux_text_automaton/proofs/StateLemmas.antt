-- The states of a sentence, along its tokens.
use Rattle.std.proofs.Common.{arith, ◌≡◌, ℕ, zero, suc, ◌+◌, ◌-◌, ◌<◌, ◌≤◌, Bool, true, false, cond, List, [], ◌∷◌, ◌++◌, length, length-take, get_or, take, drop, length-drop, sym, ◌∙◌, ap, subst, inl, inr}
use Rattle.std.specs.Prelude.{Some, IsSomeAnd, count_by, slice_get}
use Rattle.std.proofs.lemmas.Bool.{cases_Bool, cases_lt, cases_order}
use Rattle.std.proofs.lemmas.List.{get_or-drop, get_or_append_left, get_or_push, length_push}
use Rattle.std.proofs.lemmas.List.Sums.{count_by-le-length, count_by_more_no, count_by_more_yes}
use Rattle.std.proofs.lemmas.Option.{get_or_from_slice_get, slice_get_within}
use Rattle.ux_tokens.specs.declared.kind.Kind.{Kind}
use Rattle.ux_tokens.specs.declared.kind.Kind.TheVariants.{Space}
use Rattle.ux_tokens.specs.Tokens.{Token}
use Rattle.ux_text_automaton.specs.Candidates.{AreStates}
use Rattle.ux_text_automaton.specs.Runs.{IsNoSpaceAt, is_no_space, state_at}
use Rattle.ux_text_automaton.specs.SentencePaths.{AreSpaces}
use Rattle.ux_text_automaton.proofs.KindLemmas.{on_token, space_kind, the_token, token_at, within}

module _ (tokens : List Token) (first : ℕ) where
  -- before the first token the state is 0
  pub state_first : state_at tokens first first ≡ 0
  state_first =
      let none : first - first ≡ 0 = omega arith in
      ap (λ (n : ℕ). count_by (λ token. is_no_space token.kind) (take n (drop first tokens))) none

  module _ (place : ℕ) (from : first ≤ place) (token : Token)
      (at : slice_get tokens place ≡ Some token) where
    inside : place - first < length (drop first tokens)
    inside =
        let there = slice_get_within tokens place token at in
        omega (arith, length-drop first tokens, there, from)

    here : get_or (drop first tokens) (place - first) token ≡ token
    here =
        let sum : first + (place - first) ≡ place = omega (arith, from) in
        get_or-drop first tokens (place - first) token
        ∙ (ap (λ (n : ℕ). get_or tokens n token) sum
        ∙ get_or_from_slice_get tokens place token token at)

    longer : place + 1 - first ≡ (place - first) + 1
    longer = omega (arith, from)

    -- after a token other than a space it is the next one
    pub state_more : is_no_space token.kind ≡ true →
        state_at tokens first (place + 1) ≡ state_at tokens first place + 1
    state_more counted =
        ap (λ (n : ℕ). count_by (λ token. is_no_space token.kind) (take n (drop first tokens))) longer
        ∙ count_by_more_yes (λ (t : Token). is_no_space t.kind) (drop first tokens) (place - first)
        token inside (ap (λ (t : Token). is_no_space t.kind) here ∙ counted)

    -- after a space it is the same
    pub state_same : is_no_space token.kind ≡ false →
        state_at tokens first (place + 1) ≡ state_at tokens first place
    state_same spaced =
        ap (λ (n : ℕ). count_by (λ token. is_no_space token.kind) (take n (drop first tokens))) longer
        ∙ count_by_more_no (λ (t : Token). is_no_space t.kind) (drop first tokens) (place - first)
        token inside (ap (λ (t : Token). is_no_space t.kind) here ∙ spaced)

  -- it never falls
  state_step : (place : ℕ) → first ≤ place → place < length tokens →
      state_at tokens first place ≤ state_at tokens first (place + 1)
  state_step place from lt =
      let found = token_at tokens place lt in
      elim (cases_Bool (is_no_space found.0.kind)) [
        | inl counted ↦ omega (arith, state_more place from found.0 found.1 counted)
        | inr spaced ↦ omega (arith, state_same place from found.0 found.1 spaced)
      ]

  state_along : (more place : ℕ) → first ≤ place → place + more ≤ length tokens →
      state_at tokens first place ≤ state_at tokens first (place + more)
  state_along zero place from to =
      let same : place + 0 ≡ place = omega arith in
      subst (λ (n : ℕ). state_at tokens first place ≤ state_at tokens first n) (sym same) (omega arith)
  state_along (suc more) place from to =
      let before = state_along more place from (omega (arith, to)) in
      let step = state_step (place + more) (omega (arith, from)) (omega (arith, to)) in
      let same : place + suc more ≡ place + more + 1 = omega arith in
      subst (λ (n : ℕ). state_at tokens first place ≤ state_at tokens first n) (sym same)
      (omega (arith, before, step))

  pub state_le : (place later : ℕ) → first ≤ place → place ≤ later → later ≤ length tokens →
      state_at tokens first place ≤ state_at tokens first later
  state_le place later from le to =
      let same : place + (later - place) ≡ later = omega (arith, le) in
      subst (λ (n : ℕ). state_at tokens first place ≤ state_at tokens first n) same
      (state_along (later - place) place from (omega (arith, le, to)))

  pub state_after : (place : ℕ) → first ≤ place → IsNoSpaceAt tokens place →
      state_at tokens first (place + 1) ≡ state_at tokens first place + 1
  state_after place from some =
      let found = the_token (λ token. is_no_space token.kind ≡ true) (slice_get tokens place) some in
      state_more place from found.0 found.1 found.2

  -- and it rises over a token other than a space
  pub state_less : (place later : ℕ) → first ≤ place → IsNoSpaceAt tokens place → place < later →
      later ≤ length tokens → state_at tokens first place < state_at tokens first later
  state_less place later from some lt to =
      let step = state_after place from some in
      let rest = state_le (place + 1) later (omega (arith, from)) (omega (arith, lt)) to in
      omega (arith, step, rest)

  -- tokens other than spaces with one state are one token
  pub same_place : (place other : ℕ) → first ≤ place → first ≤ other → IsNoSpaceAt tokens place →
      IsNoSpaceAt tokens other → state_at tokens first (place + 1) ≡ state_at tokens first (other + 1) →
      place ≡ other
  same_place place other from from' some some' same = elim (cases_order place other) [
    | inl is ↦ is
    | inr apart ↦ elim apart [
      | inl less ↦ (
          let rise = state_less other (other + 1) from' some' (omega arith)
          (omega (arith, within _ tokens other some')) in
          let low = state_le (place + 1) other (omega (arith, from)) (omega (arith, less))
          (omega (arith, within _ tokens other some')) in
          absurd (omega (arith, rise, low, same)))
      | inr more ↦ (
          let rise = state_less place (place + 1) from some (omega arith)
          (omega (arith, within _ tokens place some)) in
          let low = state_le (other + 1) place (omega (arith, from')) (omega (arith, more))
          (omega (arith, within _ tokens place some)) in
          absurd (omega (arith, rise, low, same)))
    ]
  ]

  -- over spaces it stays
  spaces_along : (more place : ℕ) → first ≤ place → AreSpaces tokens place (place + more) →
      state_at tokens first (place + more) ≡ state_at tokens first place
  spaces_along zero place from spaces =
      let same : place + 0 ≡ place = omega arith in
      ap (λ (n : ℕ). state_at tokens first n) same
  spaces_along (suc more) place from spaces =
      let same : place + suc more ≡ place + more + 1 = omega arith in
      let shorter : AreSpaces tokens place (place + more) = record {
        in_order = omega arith;
        each = λ i low high. spaces.each i low (omega (arith, high));
      } in
      let last = the_token (λ token. token.kind ≡ Space) (slice_get tokens (place + more))
      (spaces.each (place + more) (omega arith) (omega arith)) in
      ap (λ (n : ℕ). state_at tokens first n) same
      ∙ (state_same (place + more) (omega (arith, from)) last.0 last.1 (ap is_no_space last.2)
      ∙ spaces_along more place from shorter)

  pub over_spaces : (place later : ℕ) → first ≤ place → AreSpaces tokens place later →
      state_at tokens first later ≡ state_at tokens first place
  over_spaces place later from spaces =
      let same : place + (later - place) ≡ later = omega (arith, spaces.in_order) in
      ap (λ (n : ℕ). state_at tokens first n) (sym same)
      ∙ spaces_along (later - place) place from (subst (AreSpaces tokens place) (sym same) spaces)

  -- and where it stays there are spaces alone
  pub spaces_between : (place later : ℕ) → first ≤ place → place ≤ later → later ≤ length tokens →
      state_at tokens first later ≡ state_at tokens first place → AreSpaces tokens place later
  spaces_between place later from le to same = record {
    in_order = le;
    each = λ i low high. space_at i low high (token_at tokens i (omega (arith, high, to)));
  }
    where
      space_at : (i : ℕ) → place ≤ i → i < later →
          (token : Token) × (slice_get tokens i ≡ Some token) →
          IsSomeAnd (slice_get tokens i) (λ token. token.kind ≡ Space)
      space_at i low high (token, at) = elim (cases_Bool (is_no_space token.kind)) [
        | inl counted ↦ (
            let rise = state_less i later (omega (arith, from, low))
            (on_token (λ token. is_no_space token.kind ≡ true) (slice_get tokens i) token at counted)
            high to in
            let start = state_le place i from low (omega (arith, high, to)) in
            absurd (omega (arith, rise, start, same)))
        | inr none ↦ on_token (λ token. token.kind ≡ Space) (slice_get tokens i) token at
            (space_kind token.kind none)
      ]

  -- THE TABLE OF STATES

  -- there are at most as many states as tokens before
  pub state_bound : (place : ℕ) → state_at tokens first place ≤ place - first
  state_bound place =
      let few = count_by-le-length (λ (t : Token). is_no_space t.kind)
      (take (place - first) (drop first tokens)) in
      omega (arith, few, length-take (place - first) (drop first tokens))

  -- the state behind a token of this kind
  pub state_next : (place : ℕ) → first ≤ place → (kind : Kind) →
      IsSomeAnd (slice_get tokens place) (λ token. kind ≡ token.kind) →
      state_at tokens first (place + 1)
      ≡ cond (is_no_space kind) (state_at tokens first place + 1) (state_at tokens first place)
  state_next place from kind is =
      let found = the_token (λ token. kind ≡ token.kind) (slice_get tokens place) is in
      by (is_no_space kind) found.0 found.1 (ap is_no_space (sym found.2))
    where
      by : (b : Bool) (token : Token) → slice_get tokens place ≡ Some token →
          is_no_space token.kind ≡ b → state_at tokens first (place + 1)
          ≡ cond b (state_at tokens first place + 1) (state_at tokens first place)
      by true token at counted = state_more place from token at counted
      by false token at spaced = state_same place from token at spaced

  pub states_start : AreStates tokens first first (0 ∷ [])
  states_start = record {
    each_place = omega arith;
    each = λ i lt. (
        let start : first + i ≡ first = omega (arith, lt) in
        let none : get_or (0 ∷ []) i 0 ≡ 0 =
        let zero_is : i ≡ 0 = omega (arith, lt) in
        ap (λ (k : ℕ). get_or (0 ∷ []) k 0) zero_is in
        none ∙ sym (ap (λ (n : ℕ). state_at tokens first n) start ∙ state_first));
  }

  pub states_more : (place : ℕ) (states : List ℕ) (state : ℕ) → first ≤ place →
      AreStates tokens first place states → state ≡ state_at tokens first (place + 1) →
      AreStates tokens first (place + 1) (states ++ state ∷ [])
  states_more place states state from are is = record {
    each_place = omega (arith, length_push states state, are.each_place, from);
    each = λ i lt. elim (cases_lt i (length states)) [
      | inl old ↦ get_or_append_left states (state ∷ []) 0 i old ∙ are.each i old
      | inr new ↦ (
          let last : i ≡ length states = omega (arith, lt, new, length_push states state) in
          let there : first + i ≡ place + 1 = omega (arith, last, are.each_place, from) in
          get_or_push states state 0 i (sym last)
          ∙ (is ∙ sym (ap (λ (n : ℕ). state_at tokens first n) there)))
    ];
  }

-- the number at a place of the table
pub state_found : (tokens : List Token) (first end place : ℕ) (states : List ℕ) →
    AreStates tokens first end states → first ≤ place → place ≤ end →
    get_or states (place - first) 0 ≡ state_at tokens first place
state_found tokens first end place states are from to =
    let there : first + (place - first) ≡ place = omega (arith, from) in
    are.each (place - first) (omega (arith, are.each_place, from, to))
    ∙ ap (λ (n : ℕ). state_at tokens first n) there
