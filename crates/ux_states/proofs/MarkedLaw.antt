-- The theorem by which a net that is built of states can be walked and searched: ranks fall along its
-- edges, and its states have marks, the ranks, levels and closers of their hubs.
use Rattle.std.proofs.Common.{arith, ◌≡◌, ℕ, zero, suc, ◌+◌, ◌<◌, ◌≤◌, List, [], ◌∷◌, refl, sym, ◌∙◌, ap, subst, ◌⊎◌, inl, inr, length, get_or, Bool, true, false, cond, Some, None}
use Rattle.std.specs.Prelude.{Contains, slice_get, IsTrue}
use Rattle.std.proofs.lemmas.Option.{slice_get_cases}
use Rattle.ux_net.specs.declared.label.Label.{Label}
use Rattle.ux_net.specs.declared.label.Label.TheVariants.{Empty, CaseFolded, CaseExact, Mask, Brace, Space, NoSpace, Begin, End, Positive, Negative, ContextEnd, Cut, Call}
use Rattle.ux_net.specs.declared.net_graph.NetGraph.{NetGraph}
use Rattle.ux_net.specs.declared.state.Edge.{Edge}
use Rattle.ux_net.specs.declared.state.State.{State}
use Rattle.ux_net.specs.declared.state_graph.StateGraph.{StateGraph}
use Rattle.ux_net.specs.Closers.{ClosesInto}
use Rattle.ux_net.specs.Marked.{Marks, Keeps, Stands, StandsBehind, HoldAlong, IsMarked}
use Rattle.ux_net.specs.Measured.{rank_of, is_free, must, IsLower, FallsOver, Falls, IsMeasured}
use Rattle.ux_net.specs.Nets.{states_of, net_grammar, IsNetStep, IsCalled}
use Rattle.ux_net.specs.Silent.{are_silent}
use Rattle.ux_net.specs.StateGraphs.{told_in, told_states}
use Rattle.ux_net.specs.Words.{Sign, positive, negative, Step, ordinary, opens, closes, mark_of, stop}
use Rattle.ux_boxes.specs.Numbers.{number_of, all_places}
use Rattle.ux_admission.specs.Admission.{place_rank, is_place_free}
use Rattle.ux_state_places.specs.Kinds.{kind_of}
use Rattle.ux_state_places.proofs.RunLifts.{IsMetState, hop, met_state, lifted, same_mark, opened_place}
use Rattle.ux_state_places.proofs.RunProjects.{closes_forth}
use Rattle.ux_states.proofs.Found.{Found, IsBuilt}
use Rattle.ux_states.proofs.HubLemmas.{hub, state, level, closers, Into, Lower, Landed, landed, hub_lower, step_level, closer_of, closer_there, closers_run, opened_level, opened_rank, mark_s, closed_place, closed_lower, closed_level, run_closed}
use Rattle.ux_states.proofs.NetStates.{first, step_of, of_state, of_end, rank_is, free_is}
use Rattle.ux_states.proofs.RunsOfNet.{into_told}

-- what takes no token need not take more
must_no_more : (x y : Bool) → (y ≡ true → x ≡ true) → cond x 0 1 ≤ cond y 0 1
must_no_more true y told = omega arith
must_no_more false true told = absurd (let f = told refl in cc)
must_no_more false false told = omega arith

module _ (it : Found) (net : List NetGraph) (made : IsBuilt it net) where
  open it use {graphs, places, stands, hubs, ranks, free, levels, inside, stand, ranked, leveled}

  abbrev marks : Marks
  marks = record {
    rank = rank_of net;
    level = λ g n. level it g (hub it g n);
    free = is_free net;
    closers = closers it;
  }

  abbrev Met : ℕ → ℕ → Type 0
  Met g n = IsMetState graphs places stands hubs stand g n

  -- a lower hub is that of a lower state
  lower_state : (g a b : ℕ) → Met g a → Met g b → Lower it g (hub it g a) (hub it g b) →
      IsLower net g a b
  lower_state g a b met there low =
      let x = rank_is it net made g a met.inside in
      let y = rank_is it net made g b there.inside in
      let falls = low.falls in (
        omega (arith, x, y, falls),
        must_no_more (is_free net g a) (is_free net g b) (λ f.
            free_is it net made g a met.inside
            ∙ low.marked (sym (free_is it net made g b there.inside) ∙ f)),
      )

  -- and there marks stand, where closers and levels are kept
  stands_state : (g a b : ℕ) → Met g a → Met g b → Keeps marks g a b →
      Lower it g (hub it g a) (hub it g b) → Stands marks g a b
  stands_state g a b met there keeps low = record {
    keeps = keeps;
    rank = (
        let x = rank_is it net made g a met.inside in
        let y = rank_is it net made g b there.inside in
        let falls = low.falls in omega (arith, x, y, falls)
        );
    free = λ f. free_is it net made g a met.inside
        ∙ low.marked (sym (free_is it net made g b there.inside) ∙ f);
  }

  -- the start of a graph that is called
  start_there : (h : ℕ) → IsCalled (length graphs) (Call h) → 0 < length (told_states graphs h)
  start_there zero called = absurd (let from = called.0 in omega (arith, from))
  start_there (suc n) called = go (slice_get_cases graphs n).1
    where
      go : ((x : StateGraph) × (n < length graphs) × (slice_get graphs n ≡ Some x)
          × (get_or graphs n x ≡ x)) ⊎ ((length graphs ≤ n) × (slice_get graphs n ≡ None)) →
          0 < length (told_states graphs (suc n))
      go (inl x) =
          subst (λ o. 0 < length (told_in o)) (sym x.2) (inside.start (suc n) x.0 x.2)
      go (inr past) = absurd (let le = past.0 in let to = called.1 in omega (arith, le, to))

  module _ (g n : ℕ) (edge : Edge) (met : Met g n)
      (i : IsNetStep (told_states graphs g) (step_of n edge)) where
    abbrev t : Step
    t = step_of n edge

    abbrev does : Type 0
    does = mark_of (edge.label ∷ []) ≡ ordinary

    -- an ordinary edge leads to a state to which a run comes
    met_next : does → Met g edge.target
    met_next m = (hop graphs places stands hubs stand g t i m met).met

    -- the edge as a step of the places
    land : does → Landed it g t
    land m = landed it g t i m met

    -- what is closed behind it is told, and the level doesn't rise
    keeps : does → Keeps marks g n edge.target
    keeps m =
        let l = land m in
        let h = hop graphs places stands hubs stand g t i m met in
        record {
          closers = closers_run it g met h.met h.run;
          level = step_level it g t l.step l.same l.place
              (same_mark graphs places stands hubs stand g l.step t l.same ∙ m);
        }

    -- an edge that takes nothing leads lower
    silent_lower : does → kind_of edge.label ≡ Empty →
        Lower it g (hub it g n) (hub it g edge.target)
    silent_lower m kind =
        let l = land m in
        hub_lower it g t l.step l.same l.place
        (ranked.silent g l.step l.same.of_places
        (ap are_silent l.same.kind ∙ ap (λ (x : Label). are_silent (x ∷ [])) kind))

    abbrev IsOf : Label → Type 0
    IsOf x = edge.label ≡ x

    -- an edge of an ordinary label is ordinary
    plainly : (x : Label) → IsOf x → mark_of (x ∷ []) ≡ ordinary → does
    plainly x is m = ap (λ (y : Label). mark_of (y ∷ [])) is ∙ m

    -- so the state behind an edge that takes nothing is lower
    low : (x : Label) → IsOf x → mark_of (x ∷ []) ≡ ordinary → kind_of x ≡ Empty →
        IsLower net g n edge.target
    low x is m kind =
        let mark = plainly x is m in
        lower_state g n edge.target met (met_next mark) (silent_lower mark (ap kind_of is ∙ kind))

    -- and marks stand along it
    stand_low : (x : Label) → IsOf x → mark_of (x ∷ []) ≡ ordinary → kind_of x ≡ Empty →
        Stands marks g n edge.target
    stand_low x is m kind =
        let mark = plainly x is m in
        stands_state g n edge.target met (met_next mark) (keeps mark)
        (silent_lower mark (ap kind_of is ∙ kind))

    -- Calls.

    module _ (h : ℕ) (is : IsOf (Call h)) where
      abbrev mark : does
      mark = plainly (Call h) is refl

      abbrev l : Landed it g t
      l = land mark

      -- the step of the places calls the same graph
      labels : l.step.labels ≡ Call h ∷ []
      labels = l.same.kind ∙ ap (λ (x : Label). kind_of x ∷ []) is

      -- the graph is there
      called : IsCalled (length graphs) (Call h)
      called =
          subst (IsCalled (length graphs)) (ap first (sym i.label) ∙ is)
          (inside.edges g n i.state i.edge i.found i.inside).called

      -- the rank and the mark of its start
      start_rank : rank_of net h 0 ≡ place_rank ranks h 0
      start_rank =
          rank_is it net made h 0 (start_there h called) ∙ ap (place_rank ranks h) (stand.start h)

      start_free : is_free net h 0 ≡ is_place_free free h 0
      start_free =
          free_is it net made h 0 (start_there h called) ∙ ap (is_place_free free h) (stand.start h)

      -- the start of what is called ranks lower, and has no higher level
      called_rank : rank_of net h 0 < rank_of net g n
      called_rank =
          let falls = (ranked.calls g h l.step l.same.of_places labels).0 in
          let here = ap (place_rank ranks g) l.same.from in
          let x = rank_is it net made g n met.inside in
          let y = start_rank in
          omega (arith, falls, here, x, y)

      called_level : marks.level h 0 ≤ marks.level g n
      called_level =
          let falls = leveled.calls g h l.step l.same.of_places
          (subst (λ (x : List Label). Contains x (Call h)) (sym labels) (0, omega arith, refl)) in
          let here = ap (level it g) l.same.from in
          let start = ap (level it h) (stand.start h) in
          omega (arith, falls, here, start)

      -- where it is marked, the edge leads lower
      past_lower : is_free net h 0 ≡ true → Lower it g (hub it g n) (hub it g edge.target)
      past_lower f =
          hub_lower it g t l.step l.same l.place
          ((ranked.calls g h l.step l.same.of_places labels).1 (sym start_free ∙ f))

    -- Contexts.

    module _ (sign : Sign) (m : mark_of (edge.label ∷ []) ≡ opens sign) where
      -- a run comes to where the context opens
      met_opened : Met g edge.target
      met_opened = (opened_place graphs places stands hubs stand g t sign i m).met

      -- the rank falls there
      fall_in : rank_of net g edge.target < rank_of net g n
      fall_in =
          let falls = opened_rank it g sign t i m met in
          let x = rank_is it net made g n met.inside in
          let y = rank_is it net made g edge.target met_opened.inside in
          omega (arith, falls, x, y)

      -- a run comes to where it is closed
      met_closed : (p : ℕ) → Into it g (hub it g edge.target) p → Met g (state it g p)
      met_closed p into =
          met_state graphs places stands hubs stand g p (closed_place it g sign t i m met p into)

      -- which ranks lower
      lower_over : (c : ℕ) → ClosesInto (net_grammar net) g edge.target c → IsLower net g n c
      lower_over c into =
          let x = closes_forth graphs places stands hubs stand g edge.target c
          (hub it g edge.target) (into_told it net made g edge.target c into) met_opened stop in
          subst (IsLower net g n) x.2
          (lower_state g n (state it g x.0) met (met_closed x.0 x.1)
          (closed_lower it g sign t i m met x.0 x.1))

      -- so ranks fall over the context
      falls_over : FallsOver net g n edge.target
      falls_over = (fall_in, lower_over)

      -- and marks stand behind it
      stands_behind : StandsBehind marks g n edge.target
      stands_behind c has =
          let x = closer_of it g met_opened c has in
          let there = met_closed x.0 x.1 in
          subst (Stands marks g n) x.2
          (stands_state g n (state it g x.0) met there (record {
            closers = closers_run it g met there (run_closed it g sign t i m met x.0 x.1);
            level = closed_level it g sign t i m met x.0 x.1;
          }) (closed_lower it g sign t i m met x.0 x.1))

    -- a context that has to follow has no higher level, and one that may not has a lower one
    level_held : mark_of (edge.label ∷ []) ≡ opens positive →
        marks.level g edge.target ≤ marks.level g n
    level_held m =
        let o = opened_place graphs places stands hubs stand g t positive i m in
        let falls = leveled.holds g o.step o.same.of_places (mark_s it g positive t i m met) in
        let behind = opened_level it g positive t i m met in
        let here = ap (level it g) o.same.from in
        omega (arith, falls, behind, here)

    level_refused : mark_of (edge.label ∷ []) ≡ opens negative →
        marks.level g edge.target < marks.level g n
    level_refused m =
        let o = opened_place graphs places stands hubs stand g t negative i m in
        let falls = leveled.refused g o.step o.same.of_places (mark_s it g negative t i m met) in
        let behind = opened_level it g negative t i m met in
        let here = ap (level it g) o.same.from in
        omega (arith, falls, behind, here)

    -- where an edge closes is told
    closed_told : mark_of (edge.label ∷ []) ≡ closes → Contains (marks.closers g n) edge.target
    closed_told m =
        let x = lifted graphs places stands hubs stand g t i met in
        let into : Into it g x.0.from x.0.to = (
          [],
          record {
            step = x.0;
            inside = x.1.of_places;
            closed = same_mark graphs places stands hubs stand g x.0 t x.1 ∙ m;
            after = refl;
            run = stop;
          },
        ) in
        subst (λ k. Contains (marks.closers g n) k) x.1.to
        (closer_there it g met x.0.to (subst (λ k. Into it g k x.0.to) x.1.from into))

    -- the edge falls
    falls : (x : Label) → IsOf x → Falls net g n edge.target x
    falls Empty is = low Empty is refl refl
    falls (CaseFolded text) is = tt
    falls (CaseExact text) is = tt
    falls (Mask mask) is = tt
    falls (Brace text) is = tt
    falls Space is = tt
    falls NoSpace is = low NoSpace is refl refl
    falls (Begin name) is = low (Begin name) is refl refl
    falls (End name) is = low (End name) is refl refl
    falls Positive is = falls_over positive (ap (λ (y : Label). mark_of (y ∷ [])) is)
    falls Negative is = falls_over negative (ap (λ (y : Label). mark_of (y ∷ [])) is)
    falls ContextEnd is = tt
    falls Cut is = low Cut is refl refl
    falls (Call h) is = (
      called_rank h is,
      λ f. lower_state g n edge.target met (met_next (plainly (Call h) is refl))
          (past_lower h is (free_start (is_free net h 0) refl f)),
    )
      where
        free_start : (b : Bool) → is_free net h 0 ≡ b → must net h 0 ≡ 0 → is_free net h 0 ≡ true
        free_start true is none = is
        free_start false is one =
            absurd (let e : 1 ≡ 0 = sym (ap (λ (b : Bool). cond b 0 1) is) ∙ one in omega (arith, e))

    -- and the marks hold along it
    holds : (x : Label) → IsOf x → HoldAlong marks g n edge.target x
    holds Empty is = stand_low Empty is refl refl
    holds NoSpace is = stand_low NoSpace is refl refl
    holds (Begin name) is = stand_low (Begin name) is refl refl
    holds (End name) is = stand_low (End name) is refl refl
    holds Cut is = stand_low Cut is refl refl
    holds (Call h) is =
        let mark = plainly (Call h) is refl in (
          keeps mark,
          called_level h is,
          called_rank h is,
          λ f. stands_state g n edge.target met (met_next mark) (keeps mark) (past_lower h is f),
        )
    holds Positive is =
        let mark = ap (λ (y : Label). mark_of (y ∷ [])) is in
        (level_held mark, fall_in positive mark, stands_behind positive mark)
    holds Negative is =
        let mark = ap (λ (y : Label). mark_of (y ∷ [])) is in
        (level_refused mark, fall_in negative mark, stands_behind negative mark)
    holds ContextEnd is = closed_told (ap (λ (y : Label). mark_of (y ∷ [])) is)
    holds (CaseFolded text) is = keeps (plainly (CaseFolded text) is refl)
    holds (CaseExact text) is = keeps (plainly (CaseExact text) is refl)
    holds (Mask mask) is = keeps (plainly (Mask mask) is refl)
    holds (Brace text) is = keeps (plainly (Brace text) is refl)
    holds Space is = keeps (plainly Space is refl)

  -- a final state is marked
  end_free : (g n : ℕ) (state : State) → slice_get (states_of net g) n ≡ Some state →
      IsTrue state.is_final → is_free net g n ≡ true
  end_free g n state found final =
      let e = of_end it net made g n (record { state = state; found = found; final = final }) in
      free_is it net made g n e.0.inside
      ∙ ranked.ends g (hub it g n) (stand.finals g n e.1 e.0.reached)

  -- the laws
  pub net_measured : IsMeasured net
  net_measured = record {
    falls = λ g n state edge found within.
        let r = of_state it net made g n state found edge within in
        falls g n edge r.0 r.1 edge.label refl;
    ends = λ g n state found final.
        ap (λ (b : Bool). cond b 0 1) (end_free g n state found final);
  }

  pub net_marked : all_places places + 1 < 4294967296 → IsMarked net
  net_marked few = record {
    top = all_places places + 1;
    few = few;
    marks = marks;
    ranked = λ g n. refl;
    are = record {
      ends = end_free;
      edges = λ g n state edge found within.
          let r = of_state it net made g n state found edge within in
          holds g n edge r.0 r.1 edge.label refl;
      below = λ g n.
          let b = leveled.below (number_of places g (hub it g n)) in omega (arith, b);
    };
  }
