-- Loops that take nothing, and units that begin with themselves, are the same of places and of
-- states.
use Rattle.std.proofs.Common.{arith, ◌≡◌, ◌≢◌, ◌⊎◌, inl, inr, ℕ, ◌<◌, List, [], ◌∷◌, ◌++◌, length, refl, sym, ap, subst, ◌∙◌}
use Rattle.std.specs.Prelude.{Contains}
use Rattle.std.proofs.lemmas.List.Elements.{Contains-append_right}
use Rattle.ux_base.proofs.Lists.{contains_first}
use Rattle.ux_net.specs.declared.label.Label.{Label}
use Rattle.ux_net.specs.declared.label.Label.TheVariants.{Call}
use Rattle.ux_net.specs.declared.state_graph.StateGraph.{StateGraph}
use Rattle.ux_net.specs.Closers.{ClosesInto}
use Rattle.ux_net.specs.Nets.{net_graph, IsNetStep}
use Rattle.ux_net.specs.StateGraphs.{told_states, state_grammar, AreInsideStates}
use Rattle.ux_net.specs.Words.{Sign, Step, Letter, opens, mark_of, letters, Run, stop, IsBody}
use Rattle.ux_boxes.specs.declared.place.Place.{Place}
use Rattle.ux_boxes.specs.Places.{places_of, place_graph, place_grammar, IsPlaceStep}
use Rattle.ux_net.specs.Nullable.{IsFree, none}
use Rattle.ux_admission.specs.Admissible.{LeadsFreely, MovesFreely, along_step, over_context, IsOnMove, in_front, at_opening, IsUnit, EntersAt, by_call, by_opening, Enters, EntersInTurns, once, more, IsOnEmptyLoop, IsLeftRecursive, IsAdmissible}
use Rattle.ux_net.proofs.RunLemmas.{run_joined}
use Rattle.ux_boxes.proofs.StepsLemmas.{step_inside}
use Rattle.ux_admission.proofs.UnitsLemmas.{on_inside}
use Rattle.ux_admission.proofs.FreeLemmas.{free_ordinary, leads_joined, move_leads, Moves, rest, move, leads_moves}
use Rattle.ux_state_places.specs.Standing.{Stand}
use Rattle.ux_state_places.proofs.WordKinds.{free_thin, free_thick}
use Rattle.ux_state_places.proofs.EntryLemmas.{state_in, hub_in, IsEntry, start_entry, opened_entry, unit_back, unit_forth, called_back, called_forth, called_start}
use Rattle.ux_state_places.proofs.RunLifts.{Same, IsMetState, same_mark, line_kinds, opened_place, lifted, target_place, met_on, arrives, hub_place, run_lifts, from_inside}
use Rattle.ux_state_places.proofs.RunProjects.{run_projects, closes_back, closes_forth, same_from, opening_same, words_forth, words_back, state_hub}

module _ (graphs : List StateGraph) (places : List (List Place)) (stands hubs : List (List ℕ))
    (stand : Stand graphs places stands hubs) where
  abbrev state_for : (g p : ℕ) → ℕ
  state_for g p = state_in graphs places stands hubs stand g p

  abbrev hub_for : (g n : ℕ) → ℕ
  hub_for g n = hub_in graphs places stands hubs stand g n

  abbrev Entry : (g p n : ℕ) → Type 0
  Entry g p n = IsEntry graphs places stands hubs stand g p n

  -- labels may take nothing exactly where their kinds may
  line_forth : (s t : Step) (g : ℕ) → Same graphs places stands hubs stand g s t →
      IsFree (state_grammar graphs) (letters t.labels) →
      IsFree (place_grammar places) (letters s.labels)
  line_forth s t g same free =
      subst (λ (l : List Label). IsFree (place_grammar places) (letters l)) (sym same.kind)
      (free_thin (state_grammar graphs) (place_grammar places)
      (words_forth graphs places stands hubs stand) free
      (line_kinds t.labels _ same.of_states.label
      (free_ordinary (state_grammar graphs) t.labels free)))

  line_back : (s t : Step) (g : ℕ) → Same graphs places stands hubs stand g s t →
      IsFree (place_grammar places) (letters s.labels) →
      IsFree (state_grammar graphs) (letters t.labels)
  line_back s t g same free =
      let mark = sym (same_mark graphs places stands hubs stand g s t same)
      ∙ free_ordinary (place_grammar places) s.labels free in
      free_thick (state_grammar graphs) (place_grammar places)
      (words_back graphs places stands hubs stand)
      (subst (λ (l : List Label). IsFree (place_grammar places) (letters l)) same.kind free)
      (letters t.labels) (line_kinds t.labels _ same.of_states.label mark)

  -- a run that may take nothing, in both
  leads_back : (g p q : ℕ) → LeadsFreely (place_grammar places) g p q →
      LeadsFreely (state_grammar graphs) g (state_for g p) (state_for g q)
  leads_back g p q l =
      let r = run_projects graphs places stands hubs stand g l.1 in (
        r.word,
        r.run,
        free_thick (state_grammar graphs) (place_grammar places)
            (words_back graphs places stands hubs stand) l.2 r.word r.kinds,
      )

  leads_forth : (g a b : ℕ) → IsMetState graphs places stands hubs stand g a →
      LeadsFreely (state_grammar graphs) g a b →
      LeadsFreely (place_grammar places) g (hub_for g a) (hub_for g b)
  leads_forth g a b met l =
      let r = run_lifts graphs places stands hubs stand g l.1 met in (
        r.word,
        r.run,
        free_thin (state_grammar graphs) (place_grammar places)
            (words_forth graphs places stands hubs stand) l.2 r.kinds,
      )

  -- A move of the states begins at the hub, and leads to a place from which one comes to the hub.
  record IsMoved (g node a b : ℕ) : Type 0 where
    on : ℕ
    target : ℕ
    move : IsOnMove (place_grammar places) g on (hub_for g a) target
    is : state_for g on ≡ node
    arrives : Run g (place_graph (places_of places g)) target (hub_for g b) []

  -- a place to which a move leads goes on to the hub
  moved_on : (g a q b : ℕ) → IsMetState graphs places stands hubs stand g a →
      MovesFreely (place_grammar places) g (hub_for g a) q → (q < length (places_of places g)) →
      q ≢ 1 → state_for g q ≡ b → Run g (place_graph (places_of places g)) q (hub_for g b) []
  moved_on g a q b met m inside other is =
      let there = met_on graphs places stands hubs stand g
      (hub_place graphs places stands hubs stand g met)
      (move_leads (place_grammar places) g m).1 inside other in
      subst (λ n. Run g (place_graph (places_of places g)) q (hub_for g n) []) is
      (arrives graphs places stands hubs stand g q there)

  -- the same along a step that may take nothing
  stepped : (g : ℕ) (t : Step) → IsNetStep (told_states graphs g) t →
      IsFree (state_grammar graphs) (letters t.labels) →
      IsMetState graphs places stands hubs stand g t.from → IsMoved g t.from t.from t.to
  stepped g t i free met =
      let x = lifted graphs places stands hubs stand g t i met in
      let to = target_place graphs places stands hubs stand g x.0 x.1.of_places in
      let m : MovesFreely (place_grammar places) g (hub_for g t.from) x.0.to =
      subst (λ n. MovesFreely (place_grammar places) g n x.0.to) x.1.from
      (along_step x.0 x.1.of_places (line_forth x.0 t g x.1 free)) in
      record {
        on = hub_for g t.from;
        target = x.0.to;
        move = in_front m;
        is = state_hub graphs places stands hubs stand g t.from met.inside;
        arrives = moved_on g t.from x.0.to t.to met m to.0 to.1 x.1.to;
      }

  -- over a context, with the two nodes on it
  record IsCrossed (g : ℕ) (t : Step) (c : ℕ) : Type 0 where
    front : IsMoved g t.from t.from c
    opening : IsMoved g t.to t.from c

  crossed : (g c : ℕ) (sign : Sign) (t : Step) → IsNetStep (told_states graphs g) t →
      mark_of t.labels ≡ opens sign → ClosesInto (state_grammar graphs) g t.to c →
      IsMetState graphs places stands hubs stand g t.from → IsCrossed g t c
  crossed g c sign t i m ends_it met =
      let o = opened_place graphs places stands hubs stand g t sign i m in
      let x = closes_forth graphs places stands hubs stand g t.to c o.step.to ends_it o.met o.enters in
      let mark = same_mark graphs places stands hubs stand g o.step t o.same ∙ m in
      let over : MovesFreely (place_grammar places) g (hub_for g t.from) x.0 =
      subst (λ n. MovesFreely (place_grammar places) g n x.0) o.same.from
      (over_context sign o.step o.same.of_places mark x.1) in
      let inner : IsBody g (place_graph (places_of places g)) o.step.to x.0 x.1.0 = x.1.1 in
      let to = target_place graphs places stands hubs stand g inner.step inner.inside in
      let inside = subst (λ n. n < length (places_of places g)) inner.after to.0 in
      let other = subst (λ n. n ≢ 1) inner.after to.1 in
      let on_to = moved_on g t.from x.0 c met over inside other x.2 in
      record {
        front = record {
          on = hub_for g t.from;
          target = x.0;
          move = in_front over;
          is = state_hub graphs places stands hubs stand g t.from met.inside;
          arrives = on_to;
        };
        opening = record {
          on = o.step.to;
          target = x.0;
          move = subst (λ n. IsOnMove (place_grammar places) g o.step.to n x.0) o.same.from
              (at_opening sign o.step o.same.of_places mark x.1);
          is = o.same.to;
          arrives = on_to;
        };
      }

  moved : (g : ℕ) {a b : ℕ} → MovesFreely (state_grammar graphs) g a b →
      IsMetState graphs places stands hubs stand g a → IsMoved g a a b
  moved g (along_step t i free) met = stepped g t i free met
  moved g (over_context {closing = c} sign t i m ends_it) met =
      (crossed g c sign t i m ends_it met).front

  on_moved : (g : ℕ) {node a b : ℕ} → IsOnMove (state_grammar graphs) g node a b →
      IsMetState graphs places stands hubs stand g a → IsMoved g node a b
  on_moved g (in_front m) met = moved g m met
  on_moved g (at_opening {closing = c} sign t i m ends_it) met =
      (crossed g c sign t i m ends_it met).opening

  -- a loop of the states is one of the places
  pub loop_forth : (g n : ℕ) → IsOnEmptyLoop (state_grammar graphs) g n →
      (p : ℕ) × IsOnEmptyLoop (place_grammar places) g p × (state_for g p ≡ n)
  loop_forth g n o =
      let graph = place_graph (places_of places g) in
      let from_in = move_inside o.moves in
      let some = start_inside_of o in
      let first = unit_forth graphs places stands hubs stand g o.first some o.unit in
      let reached = run_lifts graphs places stands hubs stand g o.reached first.1.met in
      let x = on_moved g o.moves reached.met in
      let next_met = (run_lifts graphs places stands hubs stand g (on_run o.moves) reached.met).met in
      let back = leads_forth g o.next o.from next_met o.back in (
        x.on,
        record {
          from = hub_for g o.from;
          next = x.target;
          moves = x.move;
          back = leads_joined (place_grammar places) g ([], x.arrives, none) back;
          first = first.0;
          unit = first.1.unit;
          word = reached.word;
          reached = run_joined g graph first.1.enters reached.run;
        },
        x.is,
      )
    where
      on_move : {node a b : ℕ} → IsOnMove (state_grammar graphs) g node a b →
          MovesFreely (state_grammar graphs) g a b
      on_move (in_front m) = m
      on_move (at_opening sign s i m ends_it) = over_context sign s i m ends_it

      move_inside : {node a b : ℕ} → IsOnMove (state_grammar graphs) g node a b →
          a < length (told_states graphs g)
      move_inside (in_front (along_step s i f)) = from_inside graphs places stands hubs stand g s i
      move_inside (in_front (over_context sign s i m ends_it)) =
          from_inside graphs places stands hubs stand g s i
      move_inside (at_opening sign s i m ends_it) =
          from_inside graphs places stands hubs stand g s i

      on_run : {node a b : ℕ} (on : IsOnMove (state_grammar graphs) g node a b) →
          Run g (net_graph (told_states graphs g)) a b
          (move_leads (state_grammar graphs) g (on_move on)).0
      on_run on = (move_leads (state_grammar graphs) g (on_move on)).1

      start_inside_of : IsOnEmptyLoop (state_grammar graphs) g n →
          0 < length (told_states graphs g)
      start_inside_of o = let inside = move_inside o.moves in omega (arith, inside)

  -- a move of the places from a hub is one of the states
  pub move_back : (g : ℕ) {p q : ℕ} → MovesFreely (place_grammar places) g p q →
      MovesFreely (state_grammar graphs) g (state_for g p) (state_for g q)
      ⊎ ((p ≢ hub_for g (state_for g p)) × (q ≡ hub_for g (state_for g p))
      × (state_for g q ≡ state_for g p))
  move_back g (along_step s i f) = elim (stand.steps g s i) [
    | inl t ↦ inr (
      t.apart,
      t.to,
      ap (λ n. state_for g n) t.to ∙ state_hub graphs places stands hubs stand g (state_for g s.from)
          (stand.inside g s.from (step_inside (places_of places g) s i).0),
    )
    | inr (t, same) ↦ inl
        (subst (λ n. MovesFreely (state_grammar graphs) g n (state_for g s.to))
        (sym (same_from graphs places stands hubs stand g s t same))
        (subst (λ n. MovesFreely (state_grammar graphs) g t.from n) (sym same.to)
        (along_step t same.of_states (line_back s t g same f))))
  ]
  move_back g (over_context {closing = c} sign s i m ends_it) =
      inl (over_back g c sign s i m ends_it)
    where
      over_back : (g c : ℕ) (sign : Sign) (s : Step) → IsPlaceStep (places_of places g) s →
          mark_of s.labels ≡ opens sign → ClosesInto (place_grammar places) g s.to c →
          MovesFreely (state_grammar graphs) g (state_for g s.from) (state_for g c)
      over_back g c sign s i m ends_it =
          let x = opening_same graphs places stands hubs stand g s sign i m in
          subst (λ n. MovesFreely (state_grammar graphs) g n (state_for g c))
          (sym (same_from graphs places stands hubs stand g s x.0 x.1))
          (over_context sign x.0 x.1.of_states
          (sym (same_mark graphs places stands hubs stand g s x.0 x.1) ∙ m)
          (subst (λ n. ClosesInto (state_grammar graphs) g n (state_for g c)) x.1.to
          (closes_back graphs places stands hubs stand g s.to c ends_it)))

  -- a run of moves is one
  moves_lead : (g : ℕ) {a b : ℕ} → Moves (place_grammar places) g a b →
      LeadsFreely (place_grammar places) g a b
  moves_lead g rest = ([], stop, none)
  moves_lead g (move m later) =
      leads_joined (place_grammar places) g (move_leads (place_grammar places) g m)
      (moves_lead g later)

  -- the first move of a run to another place
  first_move : (g : ℕ) {a b : ℕ} → Moves (place_grammar places) g a b → a ≢ b →
      (c : ℕ) × MovesFreely (place_grammar places) g a c × LeadsFreely (place_grammar places) g c b
  first_move g rest apart = absurd (apart refl)
  first_move g (move {b = c} m later) apart = (c, m, moves_lead g later)

  -- what a loop of the places has, but for the move and the run back
  record IsReached (g from : ℕ) : Type 0 where
    first : ℕ
    unit : IsUnit (place_grammar places) g first
    word : List Letter
    run : Run g (place_graph (places_of places g)) first from word

  loop_of : (g from next node : ℕ) → IsReached g from →
      IsOnMove (state_grammar graphs) g node (state_for g from) (state_for g next) →
      LeadsFreely (place_grammar places) g next from → IsOnEmptyLoop (state_grammar graphs) g node
  loop_of g from next node r on back =
      let x = run_projects graphs places stands hubs stand g r.run in
      record {
        from = state_for g from;
        next = state_for g next;
        moves = on;
        back = leads_back g next from back;
        first = state_for g r.first;
        unit = unit_back graphs places stands hubs stand g r.first r.unit;
        word = x.word;
        reached = x.run;
      }

  -- where a step to a hub is on a loop, the move from the hub is
  loop_at_hub : (g from next : ℕ) → IsReached g from → from ≢ hub_for g (state_for g from) →
      next ≡ hub_for g (state_for g from) → state_for g next ≡ state_for g from →
      MovesFreely (place_grammar places) g from next →
      LeadsFreely (place_grammar places) g next from →
      IsOnEmptyLoop (state_grammar graphs) g (state_for g from)
  loop_at_hub g from next r apart to same m back =
      let x = first_move g (leads_moves (place_grammar places) g back)
      (λ e. apart (sym e ∙ to)) in
      let step = move_leads (place_grammar places) g m in
      let reached : IsReached g next = record {
        first = r.first;
        unit = r.unit;
        word = r.word ++ step.0;
        run = run_joined g (place_graph (places_of places g)) r.run step.1;
      } in
      elim (move_back g x.1) [
        | inl n ↦ subst (IsOnEmptyLoop (state_grammar graphs) g) same
            (loop_of g next x.0 (state_for g next) reached (in_front n)
            (leads_joined (place_grammar places) g x.2 step))
        | inr n ↦ absurd (n.0 (to ∙ ap (λ k. hub_for g k) (sym same)))
      ]

  -- a loop of the places is one of the states
  pub loop_back : (g p : ℕ) → IsOnEmptyLoop (place_grammar places) g p →
      IsOnEmptyLoop (state_grammar graphs) g (state_for g p)
  loop_back g p o = by o.moves o.back
      (record { first = o.first; unit = o.unit; word = o.word; run = o.reached })
    where
      by : {node from next : ℕ} → IsOnMove (place_grammar places) g node from next →
          LeadsFreely (place_grammar places) g next from → IsReached g from →
          IsOnEmptyLoop (state_grammar graphs) g (state_for g node)
      by {from = from} {next = next} (in_front m) back r = elim (move_back g m) [
        | inl n ↦ loop_of g from next (state_for g from) r (in_front n) back
        | inr n ↦ loop_at_hub g from next r n.0 n.1 n.2 m back
      ]
      by {next = c} (at_opening sign s i m ends_it) back r =
          let x = opening_same graphs places stands hubs stand g s sign i m in
          let on : IsOnMove (state_grammar graphs) g x.0.to x.0.from (state_for g c) =
          at_opening sign x.0 x.1.of_states
          (sym (same_mark graphs places stands hubs stand g s x.0 x.1) ∙ m)
          (subst (λ n. ClosesInto (state_grammar graphs) g n (state_for g c)) x.1.to
          (closes_back graphs places stands hubs stand g s.to c ends_it)) in
          loop_of g s.from c (state_for g s.to) r
          (subst (λ n. IsOnMove (state_grammar graphs) g n (state_for g s.from) (state_for g c))
          (sym x.1.to)
          (subst (λ n. IsOnMove (state_grammar graphs) g x.0.to n (state_for g c))
          (sym (same_from graphs places stands hubs stand g s x.0 x.1)) on)) back

  -- a node on a loop is a place, and its state is on one
  pub loop_states : (g p : ℕ) → IsOnEmptyLoop (place_grammar places) g p →
      (p < length (places_of places g)) × IsOnEmptyLoop (state_grammar graphs) g (state_for g p)
  loop_states g p o = (on_inside places g o.moves, loop_back g p o)

  -- a step at which a call or a context stands
  call_in : (s : Step) (front back : List Label) (h : ℕ) → s.labels ≡ front ++ Call h ∷ back →
      Contains s.labels (Call h)
  call_in s front back h e =
      subst (λ (l : List Label). Contains l (Call h)) (sym e)
      (Contains-append_right front (Call h ∷ back) (Call h) (contains_first (Call h) back))

  enters_back : (g p h q node : ℕ) → Enters (place_grammar places) g p h q node →
      Enters (state_grammar graphs) g (state_for g p) h (state_for h q) (state_for g node)
  enters_back g p h q node e = by e.step e.of_graph e.to_node e.leads e.enters
    where
      made : (h v : ℕ) (s t : Step) → Same graphs places stands hubs stand g s t → s.to ≡ node →
          LeadsFreely (place_grammar places) g p s.from →
          EntersAt (state_grammar graphs) g t h v →
          Enters (state_grammar graphs) g (state_for g p) h v (state_for g node)
      made h v s t same to l at = record {
        step = t;
        of_graph = same.of_states;
        to_node = sym same.to ∙ ap (λ n. state_for g n) to;
        leads = subst (λ n. LeadsFreely (state_grammar graphs) g (state_for g p) n)
            (same_from graphs places stands hubs stand g s t same) (leads_back g p s.from l);
        enters = at;
      }

      by : {h q : ℕ} (s : Step) → IsPlaceStep (places_of places g) s → s.to ≡ node →
          LeadsFreely (place_grammar places) g p s.from →
          EntersAt (place_grammar places) g s h q →
          Enters (state_grammar graphs) g (state_for g p) h (state_for h q) (state_for g node)
      by s i to l (by_call {h = h} front back e free) =
          let x = called_back graphs places stands hubs stand g h s i (call_in s front back h e) in
          subst (λ v. Enters (state_grammar graphs) g (state_for g p) h v (state_for g node))
          (sym (stand.first h)) (made h 0 s x.0 x.1 to l (by_call [] [] x.2 none))
      by s i to l (by_opening sign m) =
          let x = opening_same graphs places stands hubs stand g s sign i m in
          subst (λ v. Enters (state_grammar graphs) g (state_for g p) g v (state_for g node))
          (sym x.1.to) (made g x.0.to s x.0 x.1 to l
          (by_opening sign (sym (same_mark graphs places stands hubs stand g s x.0 x.1) ∙ m)))

  turns_back : {g p h q : ℕ} → EntersInTurns (place_grammar places) g p h q →
      EntersInTurns (state_grammar graphs) g (state_for g p) h (state_for h q)
  turns_back (once {g = g} {u = p} {h = h} {v = q} {node = node} e) =
      once (enters_back g p h q node e)
  turns_back (more {g = g} {u = p} {h = h} {v = q} {node = node} e later) =
      more (enters_back g p h q node e) (turns_back later)

  pub recursion_back : (g p : ℕ) → IsLeftRecursive (place_grammar places) g p →
      IsLeftRecursive (state_grammar graphs) g (state_for g p)
  recursion_back g p r = record {
    first = state_for g r.first;
    unit = unit_back graphs places stands hubs stand g r.first r.unit;
    entered_graph = r.entered_graph;
    entered_first = state_for r.entered_graph r.entered_first;
    enters = enters_back g r.first r.entered_graph r.entered_first p r.enters;
    returns = elim r.returns [
      | inl e ↦ inl (e.0, ap (λ k. state_for k r.entered_first) e.0 ∙ ap (λ n. state_for g n) e.1)
      | inr t ↦ inr (turns_back t)
    ];
  }

  pub recursion_states : (g p : ℕ) → IsLeftRecursive (place_grammar places) g p →
      (p < length (places_of places g)) × IsLeftRecursive (state_grammar graphs) g (state_for g p)
  recursion_states g p r = (
    subst (λ n. n < length (places_of places g)) r.enters.to_node
        (step_inside (places_of places g) r.enters.step r.enters.of_graph).1,
    recursion_back g p r,
  )

  -- What is entered has a place, and every place of the unit enters it.
  record IsEntered (Relates : (p q : ℕ) → Type 0) (h v : ℕ) (g u : ℕ) : Type 0 where
    place : ℕ
    entry : Entry h place v
    relates : (p : ℕ) → Entry g p u → Relates p place

  -- the same for one step, to a place of the node
  record IsEnteredAt (g u h v node : ℕ) : Type 0 where
    on : ℕ
    is : state_for g on ≡ node
    entered : IsEntered (λ p q. Enters (place_grammar places) g p h q on) h v g u

  entered_made : (g u h v q : ℕ) (s t : Step) → Same graphs places stands hubs stand g s t →
      LeadsFreely (state_grammar graphs) g u t.from →
      EntersAt (place_grammar places) g s h q → Entry h q v →
      IsEntered (λ p q. Enters (place_grammar places) g p h q s.to) h v g u
  entered_made g u h v q s t same l at entry = record {
    place = q;
    entry = entry;
    relates = λ p e. record {
      step = s;
      of_graph = same.of_places;
      to_node = refl;
      leads = leads_joined (place_grammar places) g ([], e.enters, none)
          (subst (λ n. LeadsFreely (place_grammar places) g (hub_for g u) n) (sym same.from)
          (leads_forth g u t.from e.met l));
      enters = at;
    };
  }

  enters_forth : AreInsideStates graphs → (g u h v node p : ℕ) → Entry g p u →
      Enters (state_grammar graphs) g u h v node → IsEnteredAt g u h v node
  enters_forth inside g u h v node p e x = by x.step x.of_graph x.to_node x.leads x.enters
    where
      by : {h v : ℕ} (t : Step) → IsNetStep (told_states graphs g) t → t.to ≡ node →
          LeadsFreely (state_grammar graphs) g u t.from →
          EntersAt (state_grammar graphs) g t h v → IsEnteredAt g u h v node
      by t i to l (by_call {h = h} front back is free) =
          let has = call_in t front back h is in
          let met = (run_lifts graphs places stands hubs stand g l.1 e.met).met in
          let s = lifted graphs places stands hubs stand g t i met in
          let line = called_forth graphs places stands hubs stand g h s.0 t s.1 has in
          record {
            on = s.0.to;
            is = s.1.to ∙ to;
            entered = entered_made g u h 0 0 s.0 t s.1 l (by_call [] [] line none)
                (start_entry graphs places stands hubs stand h
                (called_start graphs places stands hubs stand inside g h t i has));
          }
      by t i to l (by_opening sign m) =
          let o = opened_place graphs places stands hubs stand g t sign i m in
          let mark = same_mark graphs places stands hubs stand g o.step t o.same ∙ m in
          let entry = subst (Entry g o.step.to) o.same.to
          (opened_entry graphs places stands hubs stand g sign o.step.to (record {
            step = o.step;
            of_graph = o.same.of_places;
            to = refl;
            opens = mark;
          })).1 in
          record {
            on = o.step.to;
            is = o.same.to ∙ to;
            entered = entered_made g u g t.to o.step.to o.step t o.same l (by_opening sign mark)
                entry;
          }

  turns_forth : AreInsideStates graphs → {g u h v : ℕ} → (p : ℕ) → Entry g p u →
      EntersInTurns (state_grammar graphs) g u h v →
      IsEntered (λ p q. EntersInTurns (place_grammar places) g p h q) h v g u
  turns_forth inside p e (once {g = g} {u = u} {h = h} {v = v} {node = node} x) =
      let y = (enters_forth inside g u h v node p e x).entered in
      record { place = y.place; entry = y.entry; relates = λ p e. once (y.relates p e) }
  turns_forth inside p e (more {g = g} {u = u} {h = h} {v = v} {node = node} x later) =
      let y = (enters_forth inside g u h v node p e x).entered in
      let z = turns_forth inside y.place y.entry later in
      record {
        place = z.place;
        entry = z.entry;
        relates = λ p e. more (y.relates p e) (z.relates y.place y.entry);
      }

  -- a left recursion of the states is one of the places
  pub recursion_forth : AreInsideStates graphs → (g n : ℕ) →
      IsLeftRecursive (state_grammar graphs) g n →
      (p : ℕ) × IsLeftRecursive (place_grammar places) g p × (state_for g p ≡ n)
  recursion_forth inside g n r =
      let begins = from_inside graphs places stands hubs stand g r.enters.step r.enters.of_graph in
      let first = unit_forth graphs places stands hubs stand g r.first (omega (arith, begins)) r.unit in
      let x = enters_forth inside g r.first r.entered_graph r.entered_first n first.0 first.1
      r.enters in
      let y = x.entered in
      elim r.returns [
        | inl e ↦
            let entry : Entry g y.place r.first =
            subst (Entry g y.place) e.1 (subst (λ k. Entry k y.place r.entered_first) e.0 y.entry) in (
              x.on,
              record {
                first = y.place;
                unit = entry.unit;
                entered_graph = r.entered_graph;
                entered_first = y.place;
                enters = y.relates y.place entry;
                returns = inl (e.0, refl);
              },
              x.is,
            )
        | inr t ↦
            let z = turns_forth inside y.place y.entry t in (
              x.on,
              record {
                first = z.place;
                unit = z.entry.unit;
                entered_graph = r.entered_graph;
                entered_first = y.place;
                enters = y.relates z.place z.entry;
                returns = inr (z.relates y.place y.entry);
              },
              x.is,
            )
      ]

  -- where the places are admissible, the states are
  pub admissible_states : AreInsideStates graphs → IsAdmissible (place_grammar places) →
      IsAdmissible (state_grammar graphs)
  admissible_states inside a = record {
    no_empty_loop = λ g n o. let x = loop_forth g n o in a.no_empty_loop g x.0 x.1;
    no_left_recursion = λ g n r.
        let x = recursion_forth inside g n r in a.no_left_recursion g x.0 x.1;
  }
