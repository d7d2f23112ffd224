-- The theorem by which a net can be searched in an order: a net that is built of places has marks.
-- The closers and the levels of its states are those of the places, and its ranks and free states are
-- its own.
use Rattle.std.proofs.Common.{arith, ◌≡◌, ℕ, ◌+◌, ◌<◌, ◌≤◌, List, [], ◌∷◌, ◌++◌, refl, sym, ◌∙◌, ap, subst, ◌⊎◌, inl, inr, length, get_or, Bool, true, false, cond}
use Rattle.std.specs.Prelude.{Option, Some, None, Contains, max, map}
use Rattle.std.proofs.Math.Nat.{max-le, le-max_left, le-max_right}
use Rattle.std.proofs.lemmas.Option.{get_or_from_slice_get}
use Rattle.std.proofs.lemmas.List.{get_or_past}
use Rattle.std.proofs.lemmas.List.Elements.{All-contains, Contains-get_or}
use Rattle.ux_net.specs.declared.label.Label.{Label}
use Rattle.ux_net.specs.declared.label.Label.TheVariants.{Empty, CaseFolded, CaseExact, Mask, Brace, Space, NoSpace, Begin, End, Positive, Negative, ContextEnd, Cut, Call}
use Rattle.ux_boxes.specs.declared.place.Place.{Place}
use Rattle.ux_net.specs.declared.net_graph.NetGraph.{NetGraph}
use Rattle.ux_net.specs.declared.state.Edge.{Edge}
use Rattle.ux_net.specs.declared.state.State.{State}
use Rattle.ux_net.specs.Words.{Step, Sign, positive, negative, context, ordinary, opens, closes, mark_of, letters, put_by, Run, stop, along, across, IsBody}
use Rattle.ux_boxes.specs.Places.{label_lines, IsPlaceStep, places_of, place_graph, place_grammar}
use Rattle.ux_boxes.specs.Numbers.{number_of, all_places}
use Rattle.ux_net.specs.Closers.{ClosesInto}
use Rattle.ux_admission.specs.Closers.{AreClosers}
use Rattle.ux_admission.specs.Uses.{AreLevels}
use Rattle.ux_net.specs.Nets.{net_graph, net_grammar, IsCalled, AreInside, states_of as net_states}
use Rattle.ux_net.specs.Measured.{rank_of, is_free, must, IsLower, FallsOver, Falls, IsMeasured}
use Rattle.ux_net.specs.Marked.{Marks, Keeps, Stands, StandsBehind, HoldAlong, IsMarked}
use Rattle.ux_boxes.specs.Fit.{is_call}
use Rattle.ux_compile.specs.Construct.{edge_labels, has_state, number, line_at, called_at, labels_at, chain_len, first_chain, target_of, by_state, states_of, AreFit}
use Rattle.ux_admission.specs.Admission.{ArePlaceRanks}
use Rattle.ux_compile.specs.Ranks.{AreCallsInside, AreAllFit, AreBuilt}
use Rattle.ux_compile.proofs.EdgeLabelsLemmas.{each_label}
use Rattle.ux_base.proofs.Lists.{less_or, nothing_in, first_or_later}
use Rattle.ux_base.proofs.JoinedLists.{contains_mapped, contained_mapped}
use Rattle.ux_compile.proofs.StatesLemmas.{total, length_by_state, line_called, place_inside, get_place, get_chain, Stands as StandsAt, of_a_place, of_a_line, stands}
use Rattle.ux_compile.proofs.ConstructLaw.{lt_then, lt_else, has_line, starts, line_is, old_step, old_is_step, OfLabel, of_label, line_mark, IsDrawn, drawn, closes_forth}
use Rattle.ux_compile.proofs.MeasuredLaw.{in_graph, built_is_measured, built_is_inside}

-- a state that leads to a marked one is marked
free_above : (net : List NetGraph) (g from to : ℕ) → must net g from ≤ must net g to →
    is_free net g to ≡ true → is_free net g from ≡ true
free_above net g from to le marked = go (is_free net g from) (is_free net g to) le marked
  where
    go : (a b : Bool) → cond a 0 1 ≤ cond b 0 1 → b ≡ true → a ≡ true
    go true b le e = refl
    go false true le e = absurd (omega (arith, le))
    go false false le e = e

-- where no token has to come the state is free
free_end : (net : List NetGraph) (g n : ℕ) → must net g n ≡ 0 → is_free net g n ≡ true
free_end net g n none = go (is_free net g n) none
  where
    go : (a : Bool) → ◌≡◌ {A = ℕ} (cond a 0 1) 0 → a ≡ true
    go true e = refl
    go false e = absurd (omega (arith, e))

-- Where bodies are closed: from the start of a step, where they are from its end.
module _ (graphs : List (List Place)) (g : ℕ) where
  abbrev Into : (a c : ℕ) → Type 0
  Into a c = ClosesInto (place_grammar graphs) g a c

  abbrev IsStepHere : Step → Type 0
  IsStepHere s = IsPlaceStep (places_of graphs g) s

  -- what is closed behind an ordinary step is closed before it
  into_along : (s : Step) → IsStepHere s → mark_of s.labels ≡ ordinary → (c : ℕ) →
      Into s.to c → Into s.from c
  into_along s is mark c into = (
    (put_by s ++ letters s.labels) ++ into.0,
    record {
      step = into.1.step;
      inside = into.1.inside;
      closed = into.1.closed;
      after = into.1.after;
      run = along s is mark into.1.run;
    },
  )

  -- and what is closed behind a context
  into_across : (s : Step) (sign : Sign) → IsStepHere s → mark_of s.labels ≡ opens sign →
      (c : ℕ) → Into s.to c → (d : ℕ) → Into c d → Into s.from d
  into_across s sign is mark c into d behind =
      let t = into.1.step in
      let last = behind.1.step in
      let run : Run g (place_graph (places_of graphs g)) t.to last.from behind.0 =
      subst (λ n. Run g (place_graph (places_of graphs g)) n last.from behind.0)
      (sym into.1.after) behind.1.run in (
        put_by s ++ context sign g s.to t.to ∷ behind.0,
        record {
          step = last;
          inside = behind.1.inside;
          closed = behind.1.closed;
          after = behind.1.after;
          run = across sign s t is mark into.1.run into.1.inside into.1.closed run;
        },
      )

  -- a closing step closes into its end
  into_closing : (s : Step) → IsStepHere s → mark_of s.labels ≡ closes → Into s.from s.to
  into_closing s is mark =
      ([], record { step = s; inside = is; closed = mark; after = refl; run = stop })

module _ (graphs : List (List Place)) (rows ranks : List (List ℕ)) (free : List (List Bool))
    (built : List NetGraph) (levels : List ℕ) (fit : AreAllFit graphs)
    (inside : AreCallsInside graphs) (ranked : ArePlaceRanks graphs ranks free)
    (made : AreBuilt graphs rows ranks free built) (closing : AreClosers graphs rows)
    (leveled : AreLevels graphs levels) where
  abbrev places : ℕ → List Place
  places g = places_of graphs g

  abbrev place_level : (g a : ℕ) → ℕ
  place_level g a = get_or levels (number_of graphs g a) 0

  -- the places into which bodies from a place are closed, and their states
  abbrev place_row : (g a : ℕ) → List ℕ
  place_row g a = get_or rows (number_of graphs g a) []

  abbrev place_closers : (g a : ℕ) → List ℕ
  place_closers g a = map (number (places g)) (place_row g a)

  -- the level of a chain state of a line, which may be a call behind an output, from that of the place
  abbrev chain_level : Option ℕ → ℕ → ℕ
  chain_level None level = level
  chain_level (Some h) level = max (place_level h 0) level

  abbrev level_along : (g b l k : ℕ) → ℕ
  level_along g b l k = chain_level (called_at (places g) b l) (place_level g b)

  abbrev closers_along : (g b l k : ℕ) → List ℕ
  closers_along g b l k = place_closers g b

  -- of each state the level, and where bodies are closed
  abbrev state_levels : ℕ → List ℕ
  state_levels g = by_state (places g) (place_level g) (level_along g)

  abbrev state_closers : ℕ → List (List ℕ)
  state_closers g = by_state (places g) (place_closers g) (closers_along g)

  abbrev marks : Marks
  marks = record {
    rank = rank_of built;
    level = λ g n. get_or (state_levels g) n 0;
    free = is_free built;
    closers = λ g n. get_or (state_closers g) n [];
  }

  -- the state of a place has its level
  level_of_place : (g a : ℕ) → has_state (places g) a ≡ true →
      marks.level g (number (places g) a) ≡ place_level g a
  level_of_place g a has =
      get_or_from_slice_get (state_levels g) (number (places g) a) (place_level g a) 0
      (get_place (places g) (place_level g) (level_along g) a has)

  -- and its closers
  closers_of_place : (g a : ℕ) → has_state (places g) a ≡ true →
      marks.closers g (number (places g) a) ≡ place_closers g a
  closers_of_place g a has =
      get_or_from_slice_get (state_closers g) (number (places g) a) (place_closers g a) []
      (get_place (places g) (place_closers g) (closers_along g) a has)

  -- a chain state has the level of what its line still enters
  level_of_chain : (g b l k : ℕ) → b < length (places g) →
      l < length (label_lines (places g) b) → k < chain_len (places g) b l →
      marks.level g (first_chain (places g) b l + k) ≡ level_along g b l k
  level_of_chain g b l k in_graph at lt =
      get_or_from_slice_get (state_levels g) (first_chain (places g) b l + k)
      (level_along g b l k) 0
      (get_chain (places g) (place_level g) (level_along g) b l k in_graph at lt)

  -- and the closers of its place
  closers_of_chain : (g b l k : ℕ) → b < length (places g) →
      l < length (label_lines (places g) b) → k < chain_len (places g) b l →
      marks.closers g (first_chain (places g) b l + k) ≡ place_closers g b
  closers_of_chain g b l k in_graph at lt =
      get_or_from_slice_get (state_closers g) (first_chain (places g) b l + k)
      (place_closers g b) []
      (get_chain (places g) (place_closers g) (closers_along g) b l k in_graph at lt)

  -- a chain state has no lower level than its place, and none above a bound of what it leads to
  chain_above : (called : Option ℕ) (level : ℕ) → level ≤ chain_level called level
  chain_above None level = omega arith
  chain_above (Some h) level = le-max_right (place_level h 0) level

  -- the level along a line is within that of its place
  chain_within : (called : Option ℕ) (level most : ℕ) → level ≤ most →
      ((h : ℕ) → called ≡ Some h → place_level h 0 ≤ most) → chain_level called level ≤ most
  chain_within None level most le calls = le
  chain_within (Some h) level most le calls =
      max-le {a = place_level h 0} {b = level} {k = most} (calls h refl) le

  -- all levels are below the top
  level_below : (g n : ℕ) → marks.level g n < all_places graphs + 1
  level_below g n = elim (less_or n (total (places g))) [
    | inl within ↦ go (stands (places g) n within)
    | inr past ↦
        let len = length_by_state (places g) (place_level g) (level_along g) in
        let none = get_or_past (state_levels g) n 0 (omega (arith, past, len)) in
        omega (arith, none)
  ]
    where
      go : StandsAt (places g) n → marks.level g n < all_places graphs + 1
      go (of_a_place a has at) =
          let e = ap (marks.level g) at ∙ level_of_place g a has in
          let b = leveled.below (number_of graphs g a) in
          omega (arith, e, b)
      go (of_a_line b l k in_graph at lt is) =
          let e = ap (marks.level g) is ∙ level_of_chain g b l k in_graph at lt in
          let w = chain_within (called_at (places g) b l) (place_level g b) (all_places graphs)
          (leveled.below (number_of graphs g b)) (λ h is. leveled.below (number_of graphs h 0)) in
          omega (arith, e, w)

  -- what is closed from one place is closed from another, and so from its state
  passes : (g a b : ℕ) → a < length (places g) → b < length (places g) →
      ((c : ℕ) → Into graphs g b c → Into graphs g a c) → (d : ℕ) →
      Contains (place_closers g b) d → Contains (place_closers g a) d
  passes g a b in_a in_b more d told =
      let x = contained_mapped (number (places g)) (place_row g b) d told in
      let there : Contains (place_row g a) x.0 =
      (closing.row g a x.0 in_a).1 (more x.0 ((closing.row g b x.0 in_b).0 x.1)) in
      subst (λ n. Contains (place_closers g a) n) x.2
      (contains_mapped (number (places g)) (place_row g a) x.0 there)

  -- an edge of a state of a graph
  module _ (g n : ℕ) (edge : Edge) (ok : AreFit (places g)) (o : OfLabel (places g) ok n edge) where
    abbrev b : ℕ
    b = o.place

    abbrev l : ℕ
    l = o.line

    abbrev line : List Label
    line = line_at (places g) b l

    abbrev named : ℕ → Label
    named k = get_or (labels_at (places g) b l) k Empty

    abbrev does : Type 0
    does = mark_of (edge.label ∷ []) ≡ ordinary

    has_b : has_state (places g) b ≡ true
    has_b = has_line (places g) ok b l o.inside

    in_b : b < length (places g)
    in_b = place_inside (places g) b has_b

    label_is : named o.k ≡ edge.label
    label_is = ap (λ (e : Edge). e.label) o.is

    to : target_of (places g) b l o.k ≡ edge.target
    to = ap (λ (e : Edge). e.target) o.is

    -- where it leads, the closers are those of its place
    closers_after : marks.closers g edge.target ≡ place_closers g b
    closers_after =
        ap (marks.closers g) (sym to) ∙ go (less_or (o.k + 1) (length (labels_at (places g) b l)))
      where
        go : (o.k + 1 < length (labels_at (places g) b l))
            ⊎ (length (labels_at (places g) b l) ≤ o.k + 1) →
            marks.closers g (target_of (places g) b l o.k) ≡ place_closers g b
        go (inl more) =
            ap (marks.closers g) (lt_then (o.k + 1) (length (labels_at (places g) b l))
            (first_chain (places g) b l + o.k) (number (places g) b) more)
            ∙ closers_of_chain g b l o.k in_b o.inside (omega (arith, more))
        go (inr last) =
            ap (marks.closers g) (lt_else (o.k + 1) (length (labels_at (places g) b l))
            (first_chain (places g) b l + o.k) (number (places g) b) last)
            ∙ closers_of_place g b has_b

    level_after : marks.level g edge.target ≤ level_along g b l o.k
    level_after =
        subst (λ t. marks.level g t ≤ level_along g b l o.k) to
        (go (less_or (o.k + 1) (length (labels_at (places g) b l))))
      where
        go : (o.k + 1 < length (labels_at (places g) b l))
            ⊎ (length (labels_at (places g) b l) ≤ o.k + 1) →
            marks.level g (target_of (places g) b l o.k) ≤ level_along g b l o.k
        go (inl more) =
            let e = ap (marks.level g) (lt_then (o.k + 1) (length (labels_at (places g) b l))
            (first_chain (places g) b l + o.k) (number (places g) b) more)
            ∙ level_of_chain g b l o.k in_b o.inside (omega (arith, more)) in
            omega (arith, e)
        go (inr last) =
            let e = ap (marks.level g) (lt_else (o.k + 1) (length (labels_at (places g) b l))
            (first_chain (places g) b l + o.k) (number (places g) b) last)
            ∙ level_of_place g b has_b in
            let up = chain_above (called_at (places g) b l) (place_level g b) in
            omega (arith, e, up)

    -- a call on the edge is one of the line
    call_there : (h : ℕ) → edge.label ≡ Call h → Contains line (Call h)
    call_there h call =
        each_label (λ (x : Label). x ≡ Call h → Contains line (Call h))
        (called_at (places g) b l) line (λ e. absurd cc)
        (λ x there e. subst (λ (y : Label). Contains line y) e there)
        (named o.k) (Contains-get_or (labels_at (places g) b l) o.k Empty o.below)
        (label_is ∙ call)

    -- the level of what a line calls behind an output is told at the place before it
    behind_told : (a h : ℕ) → IsPlaceStep (places g) (old_step (places g) ok a b l) →
        called_at (places g) b l ≡ Some h → place_level h 0 ≤ place_level g a
    behind_told a h step is =
        leveled.calls g h (old_step (places g) ok a b l) step
        (subst (λ (labels : List Label). Contains labels (Call h))
        (sym (line_called (places g) ok b l h o.inside is)) (0, omega arith, refl))

    keeps : does → Keeps marks g n edge.target
    keeps mark = elim o.from [
      | inl first ↦
          let a = first.0 in
          let s = old_step (places g) ok a b l in
          let step = old_is_step (places g) ok a b l first.1 first.4 o.inside in
          let plain : mark_of line ≡ ordinary =
          line_mark (places g) ok n edge o first.3 ∙ mark in
          let here = ap (marks.level g) first.2 ∙ level_of_place g a first.1 in
          let most = chain_within (called_at (places g) b l) (place_level g b) (place_level g a)
          (leveled.ordinary g s step plain) (λ h is. behind_told a h step is) in
          let low = level_after in
          record {
            closers = λ c told.
                subst (λ (row : List ℕ). Contains row c)
                (sym (ap (marks.closers g) first.2 ∙ closers_of_place g a first.1))
                (passes g a b (place_inside (places g) a first.1) in_b
                (into_along graphs g s step plain) c
                (subst (λ (row : List ℕ). Contains row c) closers_after told));
            level = omega (arith, here, most, low);
          }
      | inr later ↦
          let here =
          ap (marks.level g) later.3 ∙ level_of_chain g b l later.0 in_b o.inside later.1 in
          let low = level_after in
          record {
            closers = λ c told.
                subst (λ (row : List ℕ). Contains row c)
                (closers_after ∙ sym (ap (marks.closers g) later.3
                ∙ closers_of_chain g b l later.0 in_b o.inside later.1)) told;
            level = omega (arith, here, low);
          }
    ]

    -- what is called has no higher level
    called_level : (h : ℕ) → AreFit (places h) → edge.label ≡ Call h →
        marks.level h 0 ≤ marks.level g n
    called_level h there call =
        let start = level_of_place h 0 (starts (places h) there) in
        let told = call_there h call in
        elim o.from [
          | inl first ↦
              let a = first.0 in
              let step = old_is_step (places g) ok a b l first.1 first.4 o.inside in
              let here = ap (marks.level g) first.2 ∙ level_of_place g a first.1 in
              let low = leveled.calls g h (old_step (places g) ok a b l) step told in
              omega (arith, start, here, low)
          | inr later ↦
              let here =
              ap (marks.level g) later.3 ∙ level_of_chain g b l later.0 in_b o.inside later.1 in
              let low = in_chain (called_at (places g) b l) refl told later.0 later.2 in
              omega (arith, start, here, low)
        ]
      where
        in_chain : (called : Option ℕ) → called_at (places g) b l ≡ called →
            Contains line (Call h) → (i : ℕ) → o.k ≡ i + 1 →
            place_level h 0 ≤ chain_level (called_at (places g) b l) (place_level g b)
        in_chain None none told i e =
            let same = ap (λ (called : Option ℕ). length (edge_labels called line)) none in
            let lt = o.below in
            let no = All-contains (λ (x : Label). is_call x ≡ false) line (Call h)
            ((line_is (places g) ok b l o.inside).lone (omega (arith, same, lt, e))) told in
            absurd cc
        in_chain (Some f) is told i e =
            let only = line_called (places g) ok b l f o.inside is in
            let same : f ≡ h =
            one f (subst (λ (labels : List Label). Contains labels (Call h)) only told) in
            let left = le-max_left (place_level f 0) (place_level g b) in
            subst (λ (called : Option ℕ).
            place_level h 0 ≤ chain_level called (place_level g b)) (sym is)
            (subst (λ m. place_level m 0 ≤ max (place_level f 0) (place_level g b)) same left)
          where
            one : (f : ℕ) → Contains (Call f ∷ []) (Call h) → f ≡ h
            one f there = elim (first_or_later (Call f) [] (Call h) there) [
              | inl e ↦ cc
              | inr none ↦ absurd (nothing_in none)
            ]

    abbrev Drawn : Type 0
    Drawn = IsDrawn (places g) ok n edge b l

    as_step : (does → ⊥) → Drawn
    as_step = drawn (places g) ok n edge o

    closers_here : (d : Drawn) → marks.closers g n ≡ place_closers g d.from
    closers_here d = ap (marks.closers g) d.at ∙ closers_of_place g d.from d.has

    level_here : (d : Drawn) → marks.level g n ≡ place_level g d.from
    level_here d = ap (marks.level g) d.at ∙ level_of_place g d.from d.has

    level_there : (d : Drawn) → marks.level g edge.target ≡ place_level g b
    level_there d = ap (marks.level g) d.leads ∙ level_of_place g b has_b

    closed : mark_of (edge.label ∷ []) ≡ closes → Contains (marks.closers g n) edge.target
    closed mark =
        let d = as_step (λ plain. absurd cc) in
        let s = old_step (places g) ok d.from b l in
        let there = (closing.row g d.from b (place_inside (places g) d.from d.has)).1
        (into_closing graphs g s d.step (d.mark ∙ mark)) in
        subst (λ (row : List ℕ). Contains row edge.target) (sym (closers_here d))
        (subst (λ m. Contains (place_closers g d.from) m) (sym d.leads)
        (contains_mapped (number (places g)) (place_row g d.from) b there))

    -- wherever the body behind the edge is closed, the marks stand
    behind : (sign : Sign) → mark_of (edge.label ∷ []) ≡ opens sign →
        net_states built g ≡ states_of (places g) → FallsOver built g n edge.target →
        StandsBehind marks g n edge.target
    behind sign mark same falls c told =
        let d = as_step (λ plain. absurd cc) in
        let s = old_step (places g) ok d.from b l in
        let opened : mark_of line ≡ opens sign = d.mark ∙ mark in
        let x = contained_mapped (number (places g)) (place_row g b) c
        (subst (λ (row : List ℕ). Contains row c) closers_after told) in
        let into = (closing.row g b x.0 in_b).0 x.1 in
        let there = closes_forth graphs g ok b x.0 has_b into in
        let in_net : ClosesInto (net_grammar built) g edge.target c = (
          there.1,
          subst (λ (states : List State). IsBody g (net_graph states) edge.target c there.1)
              (sym same)
              (subst (λ m. IsBody g (net_graph (states_of (places g))) m c there.1) (sym d.leads)
              (subst (λ m. IsBody g (net_graph (states_of (places g))) (number (places g) b) m
              there.1) x.2 there.2)),
        ) in
        let low = falls.1 c in_net in
        let fall = low.0 in
        let high = level_here d in
        let there_level = ap (marks.level g) (sym x.2) ∙ level_of_place g x.0 there.0 in
        let less = leveled.across g s sign x.0 d.step opened into in
        record {
          keeps = record {
            closers = λ e told_e.
                subst (λ (row : List ℕ). Contains row e) (sym (closers_here d))
                (passes g d.from x.0 (place_inside (places g) d.from d.has)
                (place_inside (places g) x.0 there.0)
                (into_across graphs g s sign d.step opened x.0 into) e
                (subst (λ (row : List ℕ). Contains row e)
                (ap (marks.closers g) (sym x.2) ∙ closers_of_place g x.0 there.0) told_e));
            level = omega (arith, high, there_level, less);
          };
          rank = omega (arith, fall);
          free = free_above built g n c low.1;
        }

    -- a context that has to follow has no higher level, and one that may not has a lower one
    level_held : mark_of (edge.label ∷ []) ≡ opens positive →
        marks.level g edge.target ≤ marks.level g n
    level_held mark =
        let d = as_step (λ plain. absurd cc) in
        let high = level_here d in
        let low = level_there d in
        let less = leveled.holds g (old_step (places g) ok d.from b l) d.step (d.mark ∙ mark) in
        omega (arith, high, low, less)

    level_refused : mark_of (edge.label ∷ []) ≡ opens negative →
        marks.level g edge.target < marks.level g n
    level_refused mark =
        let d = as_step (λ plain. absurd cc) in
        let high = level_here d in
        let low = level_there d in
        let less = leveled.refused g (old_step (places g) ok d.from b l) d.step (d.mark ∙ mark) in
        omega (arith, high, low, less)

    stands_low : does → IsLower built g n edge.target → Stands marks g n edge.target
    stands_low mark low =
        let fall = low.0 in
        record {
          keeps = keeps mark;
          rank = omega (arith, fall);
          free = free_above built g n edge.target low.1;
        }

    plainly : (x : Label) → edge.label ≡ x → mark_of (x ∷ []) ≡ ordinary → does
    plainly x is mark = ap (λ (y : Label). mark_of (y ∷ [])) is ∙ mark

    -- the marks hold along the edge
    holds : net_states built g ≡ states_of (places g) →
        ((h : ℕ) → edge.label ≡ Call h → AreFit (places h)) → (x : Label) → edge.label ≡ x →
        Falls built g n edge.target x → HoldAlong marks g n edge.target x
    holds same there Empty is falls = stands_low (plainly Empty is refl) falls
    holds same there NoSpace is falls = stands_low (plainly NoSpace is refl) falls
    holds same there (Begin name) is falls = stands_low (plainly (Begin name) is refl) falls
    holds same there (End name) is falls = stands_low (plainly (End name) is refl) falls
    holds same there Cut is falls = stands_low (plainly Cut is refl) falls
    holds same there (Call h) is falls = (
      keeps (plainly (Call h) is refl),
      called_level h (there h is) is,
      falls.0,
      λ start. stands_low (plainly (Call h) is refl) (falls.1 (ap (λ (t : Bool). cond t 0 1) start)),
    )
    holds same there Positive is falls =
        let mark = ap (λ (x : Label). mark_of (x ∷ [])) is in
        (level_held mark, falls.0, behind positive mark same falls)
    holds same there Negative is falls =
        let mark = ap (λ (x : Label). mark_of (x ∷ [])) is in
        (level_refused mark, falls.0, behind negative mark same falls)
    holds same there ContextEnd is falls = closed (ap (λ (x : Label). mark_of (x ∷ [])) is)
    holds same there (CaseFolded text) is falls = keeps (plainly (CaseFolded text) is refl)
    holds same there (CaseExact text) is falls = keeps (plainly (CaseExact text) is refl)
    holds same there (Mask mask) is falls = keeps (plainly (Mask mask) is refl)
    holds same there (Brace text) is falls = keeps (plainly (Brace text) is refl)
    holds same there Space is falls = keeps (plainly Space is refl)

  -- the law: the net has marks
  pub built_is_marked : all_places graphs + 1 < 4294967296 → IsMarked built
  built_is_marked few = record {
    top = all_places graphs + 1;
    few = few;
    marks = marks;
    ranked = λ g n. refl;
    are = record {
      ends = λ g n state found final. free_end built g n (measured.ends g n state found final);
      edges = λ g n state edge found within.
          let i = in_graph graphs rows ranks free built fit inside ranked made g n state found in
          let called = (inside_net.edges g n state edge found within).called in
          holds g n edge i.ok (of_label (places g) i.ok n state edge i.found within) i.same
          (λ h is. there h (subst (IsCalled (length built)) is called)) edge.label refl
          (measured.falls g n state edge found within);
      below = level_below;
    };
  }
    where
      measured : IsMeasured built
      measured = built_is_measured graphs rows ranks free built fit inside ranked made

      inside_net : AreInside built
      inside_net = built_is_inside graphs rows ranks free built fit inside ranked made

      there : (h : ℕ) → IsCalled (length built) (Call h) → AreFit (places h)
      there h called = let e = made.count in let to = called.1 in fit h called.0 (omega (arith, e, to))
