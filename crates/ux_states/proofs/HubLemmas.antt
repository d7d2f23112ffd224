-- What is found of places, told of the hubs of states: along a step of the states ranks and levels
-- fall from hub to hub, and what is closed behind the one is closed behind the other.
use Rattle.std.proofs.Common.{arith, ◌≡◌, ◌≢◌, ℕ, ◌<◌, ◌≤◌, List, [], ◌∷◌, ◌++◌, ◌∙◌, ap, subst, inl, inr, length, get_or, map, true}
use Rattle.std.specs.Prelude.{Contains}
use Rattle.ux_base.proofs.JoinedLists.{contains_mapped, contained_mapped}
use Rattle.ux_net.specs.Closers.{ClosesInto}
use Rattle.ux_net.specs.Nets.{IsNetStep}
use Rattle.ux_net.specs.Silent.{are_silent}
use Rattle.ux_net.specs.StateGraphs.{told_states}
use Rattle.ux_net.specs.Words.{Sign, Step, Letter, context, ordinary, opens, mark_of, letters, put_by, Run}
use Rattle.ux_net.proofs.RunLemmas.{run_joined, one_step, over_step}
use Rattle.ux_boxes.specs.Numbers.{number_of}
use Rattle.ux_boxes.specs.Places.{places_of, place_graph, place_grammar}
use Rattle.ux_admission.specs.Admission.{place_rank, is_place_free, IsLowerPlace}
use Rattle.ux_state_places.specs.Standing.{IsSameStep, hub_of, state_for}
use Rattle.ux_state_places.proofs.RunLifts.{IsMetState, IsMetPlace, met_on, hub_place, arrives, target_place, lifted, same_mark, opened_place, Opened}
use Rattle.ux_states.proofs.Found.{Found}

module _ (it : Found) (g : ℕ) where
  open it use {graphs, places, stands, hubs, rows, ranks, free, levels, stand, closing, ranked, leveled}

  abbrev pub hub : ℕ → ℕ
  hub n = hub_of graphs places stands hubs g n

  abbrev pub state : ℕ → ℕ
  state p = state_for graphs places stands hubs g p

  abbrev pub Met : ℕ → Type 0
  Met n = IsMetState graphs places stands hubs stand g n

  abbrev pub MetPlace : ℕ → Type 0
  MetPlace p = IsMetPlace graphs places stands hubs stand g p

  abbrev pub Told : Step → Type 0
  Told t = IsNetStep (told_states graphs g) t

  abbrev pub OnPlaces : ℕ → ℕ → List Letter → Type 0
  OnPlaces p q word = Run g (place_graph (places_of places g)) p q word

  abbrev pub Into : ℕ → ℕ → Type 0
  Into p c = ClosesInto (place_grammar places) g p c

  abbrev pub level : ℕ → ℕ
  level p = get_or levels (number_of places g p) 0

  -- a step of the places that takes a state to another, and the place to which it leads
  pub record Landed (t : Step) : Type 0 where
    pub step : Step
    pub same : IsSameStep graphs places stands hubs g step t
    pub place : MetPlace step.to

  -- an ordinary step of the states is one of the places
  pub landed : (t : Step) → Told t → mark_of t.labels ≡ ordinary → Met t.from → Landed t
  landed t i m met =
      let graph = place_graph (places_of places g) in
      let l = lifted graphs places stands hubs stand g t i met in
      let s = l.0 in
      let same = l.1 in
      let to = target_place graphs places stands hubs stand g s same.of_places in
      let run : OnPlaces (hub t.from) s.to (put_by s ++ letters s.labels) =
      subst (λ n. OnPlaces n s.to (put_by s ++ letters s.labels)) same.from
      (one_step g graph s same.of_places
      (same_mark graphs places stands hubs stand g s t same ∙ m)) in
      record {
        step = s;
        same = same;
        place = met_on graphs places stands hubs stand g
            (hub_place graphs places stands hubs stand g met) run to.0 to.1;
      }

  -- Ranks.

  abbrev pub Lower : ℕ → ℕ → Type 0
  Lower p q = IsLowerPlace ranks free g p q

  -- the rank doesn't rise, and marks are told
  pub record NoHigher (p q : ℕ) : Type 0 where
    pub rank : place_rank ranks g q ≤ place_rank ranks g p
    pub marked : is_place_free free g q ≡ true → is_place_free free g p ≡ true

  -- what is lower is no higher
  pub no_higher : {p q : ℕ} → Lower p q → NoHigher p q
  no_higher low = record {
    rank = (let falls = low.falls in omega (arith, falls));
    marked = low.marked;
  }

  -- from a place to its hub
  pub hub_no_higher : (p : ℕ) → MetPlace p → NoHigher p (hub (state p))
  hub_no_higher p m = elim (stand.enters g p m.other m.reached) [
    | inl e ↦ subst (λ n. NoHigher p n) e (record { rank = omega arith; marked = λ f. f })
    | inr (s, t, e) ↦
        subst (λ n. NoHigher n (hub (state n))) e (subst (λ n. NoHigher s.from n) t.to
        (no_higher (ranked.silent g s t.of_places (ap are_silent t.silent))))
  ]

  -- lower, and then no higher, is lower
  pub lower_then : {p q r : ℕ} → Lower p q → NoHigher q r → Lower p r
  lower_then low after = record {
    falls = (let falls = low.falls in let rank = after.rank in omega (arith, falls, rank));
    marked = λ f. low.marked (after.marked f);
  }

  -- from hub to hub, where a step of the places leads lower
  pub hub_lower : (t s : Step) → IsSameStep graphs places stands hubs g s t → MetPlace s.to →
      Lower s.from s.to → Lower (hub t.from) (hub t.to)
  hub_lower t s same place low =
      subst (λ n. Lower n (hub t.to)) same.from
      (subst (λ n. Lower s.from (hub n)) same.to (lower_then low (hub_no_higher s.to place)))

  -- Levels.

  -- from a place to its hub the level doesn't rise
  pub hub_level : (p : ℕ) → MetPlace p → level (hub (state p)) ≤ level p
  hub_level p m = elim (stand.enters g p m.other m.reached) [
    | inl e ↦ subst (λ n. level n ≤ level p) e (omega arith)
    | inr (s, t, e) ↦
        subst (λ n. level (hub (state n)) ≤ level n) e (subst (λ n. level n ≤ level s.from) t.to
        (leveled.ordinary g s t.of_places (ap mark_of t.silent)))
  ]

  -- nor from hub to hub along an ordinary step
  pub step_level : (t s : Step) → IsSameStep graphs places stands hubs g s t → MetPlace s.to →
      mark_of s.labels ≡ ordinary → level (hub t.to) ≤ level (hub t.from)
  step_level t s same place mark =
      let here = ap level same.from in
      let there = subst (λ n. level (hub n) ≤ level s.to) same.to (hub_level s.to place) in
      let along = leveled.ordinary g s same.of_places mark in
      omega (arith, here, there, along)

  -- Closers.

  -- the places into which what begins at a place is closed, and their states
  abbrev pub row : ℕ → List ℕ
  row p = get_or rows (number_of places g p) []

  abbrev pub closers : ℕ → List ℕ
  closers n = map state (row (hub n))

  -- what is closed where a run leads is closed at its beginning
  pub into_run : {p q : ℕ} {word : List Letter} → OnPlaces p q word → (c : ℕ) → Into q c → Into p c
  into_run {word = word} run c into = (
    word ++ into.0,
    record {
      step = into.1.step;
      inside = into.1.inside;
      closed = into.1.closed;
      after = into.1.after;
      run = run_joined g (place_graph (places_of places g)) run into.1.run;
    },
  )

  -- a closer of a state is the state of a place
  pub closer_of : {n : ℕ} → Met n → (c : ℕ) → Contains (closers n) c →
      (p : ℕ) × Into (hub n) p × (state p ≡ c)
  closer_of {n = n} met c has =
      let x = contained_mapped state (row (hub n)) c has in
      (x.0, (closing.row g (hub n) x.0 (stand.hub g n met.inside).0).0 x.1, x.2)

  -- and the state of each such place is a closer
  pub closer_there : {n : ℕ} → Met n → (p : ℕ) → Into (hub n) p → Contains (closers n) (state p)
  closer_there {n = n} met p into =
      contains_mapped state (row (hub n)) p
      ((closing.row g (hub n) p (stand.hub g n met.inside).0).1 into)

  -- where a run leads from hub to hub, what is closed behind is closed
  pub closers_run : {a b : ℕ} {word : List Letter} → Met a → Met b → OnPlaces (hub a) (hub b) word →
      (c : ℕ) → Contains (closers b) c → Contains (closers a) c
  closers_run {a = a} met there run c has =
      let x = closer_of there c has in
      subst (λ n. Contains (closers a) n) x.2 (closer_there met x.0 (into_run run x.0 x.1))

  -- Contexts.

  -- a context that opens at a state, and the place into which it is closed
  module _ (sign : Sign) (t : Step) (i : Told t) (m : mark_of t.labels ≡ opens sign)
      (met : Met t.from) where
    abbrev pub o : Opened graphs places stands hubs stand g t
    o = opened_place graphs places stands hubs stand g t sign i m

    abbrev pub s : Step
    s = o.step

    -- the step of the places opens such a context too
    pub mark_s : mark_of s.labels ≡ opens sign
    mark_s = same_mark graphs places stands hubs stand g s t o.same ∙ m

    -- behind the place that opens the level is no higher
    pub opened_level : level (hub t.to) ≤ level s.to
    opened_level = subst (λ n. level (hub n) ≤ level s.to) o.same.to (hub_level s.to o.place)

    -- the hub of what is opened has a lower rank
    pub opened_rank : place_rank ranks g (hub t.to) < place_rank ranks g (hub t.from)
    opened_rank =
        let falls = (ranked.opens g s sign o.same.of_places mark_s).0 in
        let low = subst (λ n. place_rank ranks g (hub n) ≤ place_rank ranks g s.to) o.same.to
        (hub_no_higher s.to o.place).rank in
        let here = ap (place_rank ranks g) o.same.from in
        omega (arith, falls, low, here)

    -- what is closed behind the hub is closed behind the place that opens
    pub into_opening : (p : ℕ) → Into (hub t.to) p → Into s.to p
    into_opening p into = into_run o.enters p into

    -- a run leads over the context
    pub run_over : (p : ℕ) (into : Into (hub t.to) p) →
        OnPlaces (hub t.from) p (put_by s ++ context sign g s.to p ∷ [])
    run_over p into =
        subst (λ n. OnPlaces n p (put_by s ++ context sign g s.to p ∷ [])) o.same.from
        (over_step g (place_graph (places_of places g)) sign s o.same.of_places mark_s
        (into_opening p into).1)

    -- a run leads to where it is closed
    pub closed_place : (p : ℕ) → Into (hub t.to) p → MetPlace p
    closed_place p into =
        let body = into.1 in
        let to = target_place graphs places stands hubs stand g body.step body.inside in
        met_on graphs places stands hubs stand g
        (hub_place graphs places stands hubs stand g met) (run_over p into)
        (subst (λ n. n < length (places_of places g)) body.after to.0)
        (subst (λ n. n ≢ 1) body.after to.1)

    -- there the rank is lower, and the level no higher
    pub closed_lower : (p : ℕ) → Into (hub t.to) p → Lower (hub t.from) (hub (state p))
    closed_lower p into =
        lower_then (subst (λ n. Lower n p) o.same.from
        ((ranked.opens g s sign o.same.of_places mark_s).1 p (into_opening p into)))
        (hub_no_higher p (closed_place p into))

    -- nor does the level rise there
    pub closed_level : (p : ℕ) → Into (hub t.to) p → level (hub (state p)) ≤ level (hub t.from)
    closed_level p into =
        let over = leveled.across g s sign p o.same.of_places mark_s (into_opening p into) in
        let low = hub_level p (closed_place p into) in
        let here = ap level o.same.from in
        omega (arith, over, low, here)

    -- and a run leads on to the hub
    pub run_closed : (p : ℕ) (into : Into (hub t.to) p) →
        OnPlaces (hub t.from) (hub (state p)) ((put_by s ++ context sign g s.to p ∷ []) ++ [])
    run_closed p into =
        run_joined g (place_graph (places_of places g)) (run_over p into)
        (arrives graphs places stands hubs stand g p (closed_place p into))
