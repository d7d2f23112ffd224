-- States whose edges stand in one list: each has its own, and one is put behind them.
use Rattle.std.proofs.Common.{arith, ◌≡◌, ◌↔◌, ◌⊎◌, inl, inr, ℕ, zero, suc, ◌+◌, ◌-◌, ◌<◌, ◌≤◌, ◌∙◌, List, [], ◌∷◌, ◌++◌, refl, sym, ap, subst, length, take, drop, get_or}
use Rattle.std.specs.Prelude.{slice_get, Contains, Option, Some, None, OnErr, OnOk, Result, Ok, Err}
use Rattle.std.proofs.lemmas.List.{drop-append-le, drop_at, get_or_default, get_or_past, length-append, length-drop, take-append-le, take_all}
use Rattle.std.proofs.lemmas.Bool.{cases_lt}
use Rattle.std.proofs.lemmas.Option.{get_or_from_slice_get, none-some, slice_get_read}
use Rattle.ux_dawg.specs.declared.state.Edge.{Edge}
use Rattle.ux_dawg.specs.declared.state.State.{State}
use Rattle.ux_dawg.specs.declared.states.Row.{Row}
use Rattle.ux_dawg.specs.Building.{bare}
use Rattle.ux_dawg.specs.Paths.{edge, AreAscending, AreStates, IsEdge, IsPath, IsStep}
use Rattle.ux_dawg.specs.Flat.{between, code_in, start_at, state_of, states_from, AreRows, KeepsRows, PutsRow}

-- the last row ends no earlier than the first one begins
pub begins-le : (start many : ℕ) (rows : List Row) → AreRows start many rows → start ≤ many
begins-le start many [] are = omega arith
begins-le start many (row ∷ rows) are =
    let low = begins-le row.end many rows are.1 in
    let first = are.0 in omega (arith, low, first)

-- there are as many states as rows
pub length-states : (start : ℕ) (rows : List Row) (edges : List Edge) →
    length (states_from start rows edges) ≡ length rows
length-states start [] edges = refl
length-states start (row ∷ rows) edges = ap suc (length-states row.end rows edges)

-- a state is what its row says
pub state_at : (start : ℕ) (rows : List Row) (edges : List Edge) (number : ℕ) (d : Row) →
    number < length rows → get_or (states_from start rows edges) number bare
    ≡ state_of (code_in (get_or rows number d).mark)
    (between (start_at start rows number) (get_or rows number d).end edges)
state_at start [] edges number d within = absurd (omega arith)
state_at start (row ∷ rows) edges zero d within = refl
state_at start (row ∷ rows) edges (suc number) d within =
    state_at row.end rows edges number d (omega arith)

-- behind the rows is no state
pub state_past : (start : ℕ) (rows : List Row) (edges : List Edge) (number : ℕ) →
    length rows ≤ number → get_or (states_from start rows edges) number bare ≡ bare
state_past start [] edges number past = refl
state_past start (row ∷ rows) edges zero past = absurd (omega arith)
state_past start (row ∷ rows) edges (suc number) past =
    state_past row.end rows edges number (omega arith)

-- the edges of a row stand among all of them
pub row_within : (start many : ℕ) (rows : List Row) (number : ℕ) (d : Row) →
    AreRows start many rows → number < length rows →
    (start_at start rows number ≤ (get_or rows number d).end)
    × ((get_or rows number d).end ≤ many)
row_within start many [] number d are within = absurd (omega arith)
row_within start many (row ∷ rows) zero d are within =
    (are.0, begins-le row.end many rows are.1)
row_within start many (row ∷ rows) (suc number) d are within =
    row_within row.end many rows number d are.1 (omega arith)

-- the edges of a row begin where the one before it ends
pub start_behind : (start : ℕ) (rows : List Row) (number : ℕ) (d : Row) →
    number < length rows → start_at start rows (suc number) ≡ (get_or rows number d).end
start_behind start [] number d within = absurd (omega arith)
start_behind start (row ∷ []) zero d within = refl
start_behind start (row ∷ (next ∷ rows)) zero d within = refl
start_behind start (row ∷ rows) (suc number) d within =
    start_behind row.end rows number d (omega arith)

-- edges that were put last change none in front of them
between-append : (start end : ℕ) (edges more : List Edge) → start ≤ end → end ≤ length edges →
    between start end (edges ++ more) ≡ between start end edges
between-append start end edges more up within =
    let low : start ≤ length edges = omega arith in
    let many = length-drop start edges in
    let few : end - start ≤ length (drop start edges) = omega (arith, many) in
    ap (take (end - start)) (drop-append-le start edges more low)
    ∙ take-append-le (end - start) (drop start edges) more few

-- edges that were put last stand between the old end and the new one
between-last : (start : ℕ) (edges more : List Edge) → start ≡ length edges →
    between start (length edges + length more) (edges ++ more) ≡ more
between-last start edges more is =
    ap (take (length edges + length more - start)) (drop_at edges more start (sym is))
    ∙ take_all (length edges + length more - start) more (omega arith)

-- a row that is put last, with its edges, is a state behind the others
pub states-push : (start : ℕ) (rows : List Row) (row : Row) (edges more : List Edge) →
    AreRows start (length edges) rows → row.end ≡ length edges + length more →
    states_from start (rows ++ row ∷ []) (edges ++ more)
    ≡ states_from start rows edges ++ state_of (code_in row.mark) more ∷ []
states-push start [] row edges more are ends =
    ap (λ (l : List Edge). state_of (code_in row.mark) l ∷ [])
    (ap (λ (n : ℕ). between start n (edges ++ more)) ends ∙ between-last start edges more are)
states-push start (first ∷ rows) row edges more are ends =
    let within = begins-le first.end (length edges) rows are.1 in
    ap (λ (l : List Edge). state_of (code_in first.mark) l ∷ states_from first.end (rows ++ row ∷ [])
    (edges ++ more)) (between-append start first.end edges more are.0 within)
    ∙ ap (λ (l : List State). state_of (code_in first.mark) (between start first.end edges) ∷ l)
    (states-push first.end rows row edges more are.1 ends)

-- and the rows are such again
pub rows-push : (start many : ℕ) (rows : List Row) (row : Row) → AreRows start many rows →
    many ≤ row.end → AreRows start row.end (rows ++ row ∷ [])
rows-push start many [] row are up = (omega arith, refl)
rows-push start many (first ∷ rows) row are up =
    (are.0, rows-push first.end many rows row are.1 up)

-- what is read of one state of rows that are seen as these states
module _ (rows shown : List Row) (edges : List Edge) (states : List State) (number : ℕ)
    (lent : shown ≡ rows) (seen : states_from 0 rows edges ≡ states) where
  -- as many rows as states
  pub length-seen : length rows ≡ length states
  length-seen = sym (length-states 0 rows edges) ∙ ap (length {A = State}) seen

  state_there : (row : Row) → number < length shown → row ≡ get_or shown number row →
      get_or states number bare ≡ state_of (code_in row.mark) (between (start_at 0 shown number) row.end edges)
  state_there row within read =
      ap (λ (l : List State). get_or l number bare) (sym seen)
      ∙ ap (λ (l : List Row). get_or (states_from 0 l edges) number bare) (sym lent)
      ∙ state_at 0 shown edges number row within
      ∙ ap (λ (r : Row). state_of (code_in r.mark) (between (start_at 0 shown number) r.end edges)) (sym read)

  state_nowhere : length shown ≤ number → get_or states number bare ≡ bare
  state_nowhere past =
      ap (λ (l : List State). get_or l number bare) (sym seen)
      ∙ ap (λ (l : List Row). get_or (states_from 0 l edges) number bare) (sym lent)
      ∙ state_past 0 shown edges number past

  -- the number of its list
  pub code_there : (row : Row) → number < length shown → row ≡ get_or shown number row →
      code_in row.mark ≡ (get_or states number bare).code
  code_there row within read =
      sym (ap (λ (s : State). s.code) (state_there row within read))

  pub code_nowhere : length shown ≤ number → None ≡ (get_or states number bare).code
  code_nowhere past = sym (ap (λ (s : State). s.code) (state_nowhere past))

  -- its edges
  pub edges_there : (row : Row) → number < length shown → row ≡ get_or shown number row →
      between (start_at 0 shown number) row.end edges ≡ (get_or states number bare).edges
  edges_there row within read =
      sym (ap (λ (s : State). s.edges) (state_there row within read))

  pub edges_nowhere : length shown ≤ number → [] ≡ (get_or states number bare).edges
  edges_nowhere past = sym (ap (λ (s : State). s.edges) (state_nowhere past))

  -- they stand among all of them
  pub part_within : (row : Row) → AreRows 0 (length edges) rows → number < length shown →
      row ≡ get_or shown number row →
      (start_at 0 shown number ≤ row.end) × (row.end ≤ length edges)
  part_within row are within read =
      subst (λ (r : Row). (start_at 0 shown number ≤ r.end) × (r.end ≤ length edges)) (sym read)
      (row_within 0 (length edges) shown number row
      (subst (AreRows 0 (length edges)) (sym lent) are) within)

-- once a row was put, or none was for want of memory
module _ {T E : Type 0} (code : Option ℕ) (more : List Edge) (old new : List Row)
    (before behind : List Edge) where
  -- the rows are such again
  pub rows_after : (result : Result T E) → AreRows 0 (length before) old →
      OnOk result (PutsRow code more old new before behind) →
      OnErr result (KeepsRows old new before behind) → AreRows 0 (length behind) new
  rows_after (Ok done) are put kept =
      rw (put.rows, put.all)
      (subst (λ n. AreRows 0 n (old ++ put.row ∷ [])) (put.ends ∙ sym (length-append before more))
      (rows-push 0 (length before) old put.row are (let ends = put.ends in omega (arith, ends))))
  rows_after (Err error) are put kept = rw (kept.rows, kept.all) are

  -- a state stands behind the others
  pub states_after : (result : Result T E) → AreRows 0 (length before) old →
      (states : List State) → states_from 0 old before ≡ states →
      OnOk result (PutsRow code more old new before behind) →
      OnOk result (states_from 0 new behind ≡ states ++ state_of code more ∷ [])
  states_after (Ok done) are states seen put =
      rw (put.rows, put.all)
      (states-push 0 old put.row before more are put.ends
      ∙ ap (λ (l : List State). l ++ state_of (code_in put.row.mark) more ∷ []) seen
      ∙ ap (λ (n : Option ℕ). states ++ state_of n more ∷ []) put.code_is)
  states_after (Err error) are states seen put = tt

-- a state that is read by its number is the one that stands there
module _ (states : List State) (number : ℕ) (within : number < length states) where
  pub read_state : get_or states number bare ≡ get_or states number (get_or states number bare)
  read_state = get_or_default states number bare (get_or states number bare) within

  pub state_stands : slice_get states number ≡ Some (get_or states number bare)
  state_stands =
      slice_get_read states (length states) number (get_or states number bare) refl within read_state

-- a state that isn't there has no edge
module _ (states : List State) (number : ℕ) where
  read_at : (number < length states) ⊎ (get_or states number bare ≡ bare)
  read_at = elim (cases_lt number (length states)) [
    | inl within ↦ inl within
    | inr past ↦ inr (get_or_past states number bare past)
  ]

  -- so the edges that are read ascend, where those of all states do
  pub edges_ascend : AreStates states → (edges : List Edge) →
      edges ≡ (get_or states number bare).edges → AreAscending edges
  edges_ascend are edges is = subst AreAscending (sym is) (elim read_at [
    | inl within ↦
        (are number (get_or states number bare) (state_stands states number within)).ascending
    | inr none ↦ subst (λ (s : State). AreAscending s.edges) (sym none) tt
  ])

  -- and a step is one of them
  pub step_by_edges : (letter : ℕ) (edges : List Edge) → edges ≡ (get_or states number bare).edges →
      (target : Option ℕ) → ((t : ℕ) → (target ≡ Some t) ↔ Contains edges (edge letter t)) →
      (t : ℕ) → (target ≡ Some t) ↔ IsStep states number letter t
  step_by_edges letter edges is target found t = (
    λ some.
        let has = subst (λ (l : List Edge). Contains l (edge letter t)) is ((found t).0 some) in
        elim read_at [
          | inl within ↦ (get_or states number bare, state_stands states number within, has)
          | inr none ↦
              let no = subst (λ (s : State). Contains s.edges (edge letter t)) none has in
              absurd (let within = no.1 in omega (arith, within))
        ],
    λ step. (found t).1 (subst (λ (l : List Edge). Contains l (edge letter t))
        (sym (is ∙ ap (λ (s : State). s.edges)
        (get_or_from_slice_get states number step.0 bare step.1))) step.2),
  )

  -- the number that is read is that of the form that ends there
  pub code_tells : (code : Option ℕ) → code ≡ (get_or states number bare).code → (c : ℕ) →
      (code ≡ Some c) ↔ IsPath states number [] c
  code_tells code is c = (
    λ some. elim read_at [
      | inl within ↦ (get_or states number bare, state_stands states number within, sym is ∙ some)
      | inr none ↦
          absurd (none-some c (sym (ap (λ (s : State). s.code) none) ∙ (sym is ∙ some)))
    ],
    λ path. is ∙ (ap (λ (s : State). s.code)
        (get_or_from_slice_get states number path.0 bare path.1) ∙ path.2),
  )

  -- an edge that is read at a place stands there
  pub edge_tells : (edges : List Edge) → edges ≡ (get_or states number bare).edges → (place : ℕ) →
      (found : Option Edge) → found ≡ slice_get edges place → (e : Edge) →
      (found ≡ Some e) ↔ IsEdge states number place e
  edge_tells edges is place found read e = (
    λ some.
        let at = subst (λ (l : List Edge). slice_get l place ≡ Some e) is (sym read ∙ some) in
        elim read_at [
          | inl within ↦ (get_or states number bare, state_stands states number within, at)
          | inr none ↦ absurd (none-some e
              (subst (λ (s : State). slice_get s.edges place ≡ Some e) none at))
        ],
    λ edge. read ∙ subst (λ (l : List Edge). slice_get l place ≡ Some e)
        (sym (is ∙ ap (λ (s : State). s.edges)
        (get_or_from_slice_get states number edge.0 bare edge.1))) edge.2,
  )
