-- The marks that follow by the rules of a graph are those of its negative states.
use Rattle.std.proofs.Common.{arith, ◌≡◌, ◌↔◌, ℕ, suc, ◌+◌, ◌<◌, List, [], ◌∷◌, ◌++◌, add-one, ap, get_or, inl, inr, length, subst, subst₂, sym, Bool, true, ◌∙◌}
use Rattle.std.proofs.lemmas.List.{get_or_append_left, get_or_default, get_or_push}
use Rattle.ux_base.proofs.Lists.{less_or}
use Rattle.ux_digraph.specs.Rules.{Derived, is_marked_at}
use Rattle.ux_boxes.specs.declared.place.Place.{Place}
use Rattle.ux_boxes.specs.Numbers.{AreOffsets, places_before}
use Rattle.ux_boxes.specs.Places.{places_of}
use Rattle.ux_boxes.proofs.NumbersLemmas.{offset_room, places_at}
use Rattle.ux_net.specs.declared.state.State.{State}
use Rattle.ux_net.specs.declared.state_graph.StateGraph.{StateGraph}
use Rattle.ux_net.specs.StateGraphs.{AreInsideStates, state_grammar, told_states}
use Rattle.ux_admission.specs.Admission.{row_at}
use Rattle.ux_admission.specs.Closers.{AreClosers}
use Rattle.ux_state_places.specs.Standing.{Stand}
use Rattle.ux_flatten.specs.Negative.{IsNegativeAt, StandInside, opened_in, rules_in}
use Rattle.ux_flatten.proofs.NegativeLaw.{exactly_negative}
use Rattle.ux_flatten.proofs.OverLaw.{stand_inside, tells_over}
use Rattle.ux_flatten.proofs.WordsLaw.{found_graph, some_state, states_of_graph}

-- the states of a graph can be counted
pub few_states : (graphs : List StateGraph) → AreInsideStates graphs → (k : ℕ) (graph : StateGraph) →
    k < length graphs → graph ≡ get_or graphs k graph → (states : List State) →
    states ≡ graph.states → length states < 4294967296
few_states graphs inside k graph below at states is =
    subst (λ (l : List State). length l < 4294967296) (sym is)
    (inside.few (suc k) graph (found_graph graphs k graph below at))

-- what is looked up by the number of a graph
pub own_row : (stands now : List (List ℕ)) (number k : ℕ) (row : List ℕ) → now ≡ stands →
    number ≡ k → row ≡ get_or now number [] → row ≡ get_or stands k []
own_row stands now number k row same is at =
    at
    ∙ (ap (λ (l : List (List ℕ)). get_or l number []) same ∙ ap (λ n. get_or stands n []) is)

pub own_offset : (offsets : List ℕ) (number k before : ℕ) → number ≡ k → k < length offsets →
    before ≡ get_or offsets number before → before ≡ get_or offsets k 0
own_offset offsets number k before is below at =
    at ∙ (ap (λ n. get_or offsets n before) is ∙ get_or_default offsets k before 0 below)

module _ (graphs : List StateGraph) (inside : AreInsideStates graphs) (places : List (List Place))
    (stands hubs : List (List ℕ)) (stand : Stand graphs places stands hubs) (k : ℕ)
    (graph : StateGraph) (below : k < length graphs) (at : graph ≡ get_or graphs k graph)
    (states : List State) (is : states ≡ graph.states) (row : List ℕ) (own : row ≡ get_or stands k [])
  where
    told : told_states graphs (suc k) ≡ states
    told = states_of_graph graphs k graph below at ∙ sym is

    pub row_inside : StandInside row states
    row_inside = subst₂ StandInside (sym own) told
        (stand_inside graphs places stands hubs stand (suc k)
        (subst (λ (l : List State). 0 < length l) (sym told)
        (some_state graphs k graph below at inside states is)))

    pub row_room : (offsets : List ℕ) → AreOffsets places offsets → (before : ℕ) →
        before ≡ get_or offsets k 0 → before + length row < 18446744073709551616
    row_room offsets are before from =
        let lt : k < length places = omega (arith, below, stand.count) in
        let room = offset_room places offsets are k (places_of places (suc k)) lt
        (places_at places k [] lt) in
        let long : length (get_or stands k []) ≡ length (places_of places (suc k)) =
        stand.standing.row (suc k) in
        omega (arith, room, long, from, ap length own)

    pub negative_row : (offsets : List ℕ) → AreOffsets places offsets → (before : ℕ) →
        before ≡ get_or offsets k 0 → (rows : List (List ℕ)) → AreClosers places rows →
        (marks : List Bool) →
        ((x : ℕ) → (is_marked_at marks x ≡ true)
        ↔ Derived (rules_in states row rows before) (opened_in states) x) →
        (a : ℕ) → a < length (told_states graphs (suc k)) →
        (is_marked_at marks a ≡ true) ↔ IsNegativeAt (state_grammar graphs) (suc k) a
    negative_row offsets are before from rows closers marks follows a lt = (
      λ marked. law.0 (forth.0 marked),
      λ negative. forth.1 (law.1 negative),
    )
      where
        offset : before ≡ places_before places (suc k)
        offset = from ∙ are.offset k (omega (arith, below, stand.count))

        Follows : List State → List ℕ → ℕ → Type 0
        Follows states row before = Derived (rules_in states row rows before) (opened_in states) a

        law : Derived (rules_in (told_states graphs (suc k)) (get_or stands k []) rows
            (places_before places (suc k))) (opened_in (told_states graphs (suc k))) a
            ↔ IsNegativeAt (state_grammar graphs) (suc k) a
        law = exactly_negative graphs (suc k) (row_at stands (suc k)) rows
            (places_before places (suc k))
            (tells_over graphs places stands hubs stand (suc k) rows closers)
            (λ e. (inside.edges (suc k) e.a e.state e.edge e.found e.inside).target) a lt

        forth : (is_marked_at marks a ≡ true) ↔ Derived (rules_in (told_states graphs (suc k))
            (get_or stands k []) rows (places_before places (suc k)))
            (opened_in (told_states graphs (suc k))) a
        forth = subst (λ (l : List State). (is_marked_at marks a ≡ true)
            ↔ Derived (rules_in l (get_or stands k []) rows (places_before places (suc k)))
            (opened_in l) a) (sym told)
            (subst₂ (λ (r : List ℕ) n. (is_marked_at marks a ≡ true)
            ↔ Derived (rules_in states r rows n) (opened_in states) a) own offset (follows a))

module _ (graphs : List StateGraph) where
  abbrev pub IsRow : ℕ → List Bool → Type 0
  IsRow j marks = (a : ℕ) → a < length (told_states graphs (j + 1)) →
      (is_marked_at marks a ≡ true) ↔ IsNegativeAt (state_grammar graphs) (j + 1) a

  -- one row more
  pub row_more : (k : ℕ) (list now : List (List Bool)) (marks : List Bool) → length list ≡ k →
      now ≡ list ++ marks ∷ [] → ((j : ℕ) → j < k → IsRow j (get_or list j [])) →
      ((a : ℕ) → a < length (told_states graphs (suc k)) →
      (is_marked_at marks a ≡ true) ↔ IsNegativeAt (state_grammar graphs) (suc k) a) →
      (j : ℕ) → j < k + 1 → IsRow j (get_or now j [])
  row_more k list now marks len grown before last j lt = elim (less_or j k) [
    | inl small ↦ subst (IsRow j)
        (sym (ap (λ (l : List (List Bool)). get_or l j []) grown
        ∙ get_or_append_left list (marks ∷ []) [] j (omega (arith, small, len)))) (before j small)
    | inr le ↦
        let same : k ≡ j = omega (arith, lt, le) in
        let here : IsRow k marks = subst (λ g. (a : ℕ) → a < length (told_states graphs g) →
        (is_marked_at marks a ≡ true) ↔ IsNegativeAt (state_grammar graphs) g a) (sym (add-one k)) last in
        subst (IsRow j)
        (sym (ap (λ (l : List (List Bool)). get_or l j []) grown
        ∙ get_or_push list marks [] j (len ∙ same))) (subst (λ n. IsRow n marks) same here)
  ]
