-- From one depth to the next: which graphs have a copy, and which a negative one.
use Rattle.std.proofs.Common.{arith, ◌≡◌, ◌↔◌, ◌⊎◌, inl, inr, ℕ, zero, suc, ◌+◌, ◌-◌, ◌<◌, ◌≤◌, List, [], ◌∷◌, Some, refl, sym, subst, subst₂, ap, ◌∙◌, add-one, length, get_or, slice_get, Bool, true, false, cond}
use Rattle.std.specs.Prelude.{Option, None, Contains}
use Rattle.std.proofs.lemmas.List.Elements.{Contains-append_left, Contains-append_right, Contains-append_cases}
use Rattle.std.proofs.lemmas.Option.{slice_get_within}
use Rattle.ux_base.proofs.JoinedLists.{contains_joined, contained_joined}
use Rattle.ux_base.proofs.Lists.{contains_first, first_or_later, less_or, nothing_in}
use Rattle.ux_base.proofs.OrderedLists.{Contains-at, place_of}
use Rattle.ux_digraph.specs.Rules.{Derived, fact, by, is_marked_at}
use Rattle.ux_net.specs.declared.label.Label.{Label}
use Rattle.ux_net.specs.declared.label.Label.TheVariants.{Call}
use Rattle.ux_net.specs.declared.state.Edge.{Edge}
use Rattle.ux_net.specs.declared.state.State.{State}
use Rattle.ux_net.specs.declared.state_graph.StateGraph.{StateGraph}
use Rattle.ux_net.specs.Nets.{IsNetStep}
use Rattle.ux_net.specs.StateGraphs.{state_grammar, told_in, told_states}
use Rattle.ux_net.specs.Words.{Grammar, Step}
use Rattle.ux_flatten.specs.declared.cuts.Made.{Made}
use Rattle.ux_flatten.specs.Copies.{called}
use Rattle.ux_flatten.specs.Cuts.{Calls, HasCopy, HasNegativeCopy, HasWord, IsNegativeCut, IsNegativeStep, main, by_call, by_step, by_caller}
use Rattle.ux_flatten.specs.Cutting.{AreMade, HasCall, IsCutAt, IsCutState, callee_if, callee_of, callees_in, callees_of, made_callees, negative_callees, turned_by, turned_callees}
use Rattle.ux_flatten.specs.Flattening.{TellsWords}
use Rattle.ux_flatten.specs.Negative.{AreNegativeRows, IsNegativeAt}
use Rattle.ux_flatten.proofs.MakingLaw.{called_is}
use Rattle.ux_flatten.proofs.WordsLaw.{past}

-- what follows by no rule is a fact
pub facts_alone : (facts : List ℕ) {x : ℕ} → Derived [] facts x → Contains facts x
facts_alone facts (fact there) = there
facts_alone facts (by rule there first second) = absurd (nothing_in there)

module _ (has_word : ℕ → Bool) where
  -- a state of the list calls a graph with a word, which is counted from 0
  pub record Callee (states : List State) (a x : ℕ) : Type 0 where
    pub state : State
    pub found : slice_get states a ≡ Some state
    pub edge : Edge
    pub inside : Contains state.edges edge
    pub h : ℕ
    pub calls : called edge.label ≡ Some h
    pub word : has_word h ≡ true
    pub is : h - 1 ≡ x

  of_call : (calls : Option ℕ) (x : ℕ) → Contains (callee_if has_word calls) x →
      (h : ℕ) × (calls ≡ Some h) × (has_word h ≡ true) × (h - 1 ≡ x)
  of_call None x there = absurd (nothing_in there)
  of_call (Some h) x there = by_word (has_word h) refl there
    where
      by_word : (b : Bool) → has_word h ≡ b → Contains (cond b ((h - 1) ∷ []) []) x →
          (k : ℕ) × (Some h ≡ Some k) × (has_word k ≡ true) × (k - 1 ≡ x)
      by_word true e there = elim (first_or_later (h - 1) [] x there) [
        | inl same ↦ (h, refl, e, same)
        | inr none ↦ absurd (nothing_in none)
      ]
      by_word false e there = absurd (nothing_in there)

  call_there : (calls : Option ℕ) (h : ℕ) → calls ≡ Some h → has_word h ≡ true →
      Contains (callee_if has_word calls) (h - 1)
  call_there calls h e word =
      subst (λ (o : Option ℕ). Contains (callee_if has_word o) (h - 1)) (sym e)
      (subst (λ (b : Bool). Contains (cond b ((h - 1) ∷ []) []) (h - 1)) (sym word)
      (contains_first (h - 1) []))

  state_calls : (states : List State) (a : ℕ) (state : State) → slice_get states a ≡ Some state →
      (x : ℕ) → Contains (callees_of has_word state) x → Callee states a x
  state_calls states a state found x there =
      let e = contained_joined (callee_of has_word) state.edges x there in
      let c = of_call (called e.0.label) x e.2 in
      record {
        state = state;
        found = found;
        edge = e.0;
        inside = e.1;
        h = c.0;
        calls = c.1;
        word = c.2;
        is = c.3;
      }

  calls_state : (states : List State) (a x : ℕ) (c : Callee states a x) →
      Contains (callees_of has_word c.state) x
  calls_state states a x c =
      subst (Contains (callees_of has_word c.state)) c.is
      (contains_joined (callee_of has_word) c.state.edges c.edge (c.h - 1) c.inside
      (call_there (called c.edge.label) c.h c.calls c.word))

  all_called : (states : List State) (x : ℕ) →
      Contains (callees_in has_word states) x ↔ ((a : ℕ) × Callee states a x)
  all_called states x = (
    λ there.
        let s = contained_joined (callees_of has_word) states x there in
        let at = place_of states s.0 s.1 in
        (at.0, state_calls states at.0 s.0 at.1 x s.2),
    λ c. contains_joined (callees_of has_word) states c.1.state x
        (Contains-at states c.1.state c.0 c.1.found) (calls_state states c.0 x c.1),
  )

  -- the same of marked states
  pub record MarkedCallee (row : List Bool) (first : ℕ) (states : List State) (x : ℕ) : Type 0 where
    pub a : ℕ
    pub marked : is_marked_at row (first + a) ≡ true
    pub callee : Callee states a x

  later_callee : (one : State) (states : List State) (a x : ℕ) → Callee states a x →
      Callee (one ∷ states) (suc a) x
  later_callee one states a x c = record {
    state = c.state;
    found = c.found;
    edge = c.edge;
    inside = c.inside;
    h = c.h;
    calls = c.calls;
    word = c.word;
    is = c.is;
  }

  marked_there : (row : List Bool) (first : ℕ) (states : List State) (x : ℕ) →
      MarkedCallee row first states x → Contains (negative_callees has_word row first states) x
  marked_there row first states x m = by_number first states m.a m.marked m.callee
    where
      by_number : (first : ℕ) (states : List State) (a : ℕ) → is_marked_at row (first + a) ≡ true →
          Callee states a x → Contains (negative_callees has_word row first states) x
      by_number first [] a marked c = (let none : None ≡ Some c.state = c.found in cc)
      by_number first (one ∷ states) zero marked c =
          let same : one ≡ c.state = (let found : Some one ≡ Some c.state = c.found in cc) in
          let here : is_marked_at row first ≡ true =
          subst (λ n. is_marked_at row n ≡ true) (let e : first + zero ≡ first = omega arith in e) marked in
          Contains-append_left (cond (is_marked_at row first) (callees_of has_word one) [])
          (negative_callees has_word row (first + 1) states) x
          (subst (λ (b : Bool). Contains (cond b (callees_of has_word one) []) x) (sym here)
          (subst (λ (s : State). Contains (callees_of has_word s) x) (sym same)
          (calls_state (one ∷ states) zero x c)))
      by_number first (one ∷ states) (suc a) marked c =
          Contains-append_right (cond (is_marked_at row first) (callees_of has_word one) [])
          (negative_callees has_word row (first + 1) states) x
          (by_number (first + 1) states a
          (subst (λ n. is_marked_at row n ≡ true)
          (let e : first + suc a ≡ first + 1 + a = omega arith in e) marked) (record {
            state = c.state;
            found = c.found;
            edge = c.edge;
            inside = c.inside;
            h = c.h;
            calls = c.calls;
            word = c.word;
            is = c.is;
          }))

  there_marked : (row : List Bool) (first : ℕ) (states : List State) (x : ℕ) →
      Contains (negative_callees has_word row first states) x → MarkedCallee row first states x
  there_marked row first [] x there = absurd (nothing_in there)
  there_marked row first (one ∷ states) x there =
      elim (Contains-append_cases (cond (is_marked_at row first) (callees_of has_word one) [])
      (negative_callees has_word row (first + 1) states) x there) [
        | inl own ↦ by_mark (is_marked_at row first) refl own
        | inr later ↦
            let m = there_marked row (first + 1) states x later in
            record {
              a = suc m.a;
              marked = subst (λ n. is_marked_at row n ≡ true)
                  (let e : first + 1 + m.a ≡ first + suc m.a = omega arith in e) m.marked;
              callee = later_callee one states m.a x m.callee;
            }
      ]
    where
      by_mark : (b : Bool) → is_marked_at row first ≡ b →
          Contains (cond b (callees_of has_word one) []) x → MarkedCallee row first (one ∷ states) x
      by_mark true e own = record {
        a = zero;
        marked = subst (λ n. is_marked_at row n ≡ true)
            (let same : first ≡ first + zero = omega arith in same) e;
        callee = state_calls (one ∷ states) zero one refl x own;
      }
      by_mark false e own = absurd (nothing_in own)

  -- what graphs call that have a copy
  pub record MadeCallee (copies : List Bool) (first : ℕ) (graphs : List StateGraph) (x : ℕ) :
      Type 0 where
    pub j : ℕ
    pub below : j < length graphs
    pub made : is_marked_at copies (first + j) ≡ true
    pub a : ℕ
    pub callee : Callee (told_in (slice_get graphs j)) a x

  made_there : (copies : List Bool) (first : ℕ) (graphs : List StateGraph) (x j : ℕ) →
      j < length graphs → is_marked_at copies (first + j) ≡ true → (a : ℕ) →
      Callee (told_in (slice_get graphs j)) a x →
      Contains (made_callees has_word copies first graphs) x
  made_there copies first [] x j below marked a c = absurd (omega (arith, below))
  made_there copies first (graph ∷ graphs) x zero below marked a c =
      let here : is_marked_at copies first ≡ true =
      subst (λ n. is_marked_at copies n ≡ true) (let e : first + zero ≡ first = omega arith in e) marked in
      Contains-append_left (cond (is_marked_at copies first) (callees_in has_word graph.states) [])
      (made_callees has_word copies (first + 1) graphs) x
      (subst (λ (b : Bool). Contains (cond b (callees_in has_word graph.states) []) x) (sym here)
      ((all_called graph.states x).1 (a, c)))
  made_there copies first (graph ∷ graphs) x (suc j) below marked a c =
      Contains-append_right (cond (is_marked_at copies first) (callees_in has_word graph.states) [])
      (made_callees has_word copies (first + 1) graphs) x
      (made_there copies (first + 1) graphs x j (omega (arith, below))
      (subst (λ n. is_marked_at copies n ≡ true)
      (let e : first + suc j ≡ first + 1 + j = omega arith in e) marked) a c)

  pub there_made : (copies : List Bool) (first : ℕ) (graphs : List StateGraph) (x : ℕ) →
      Contains (made_callees has_word copies first graphs) x → MadeCallee copies first graphs x
  there_made copies first [] x there = absurd (nothing_in there)
  there_made copies first (graph ∷ graphs) x there =
      elim (Contains-append_cases
      (cond (is_marked_at copies first) (callees_in has_word graph.states) [])
      (made_callees has_word copies (first + 1) graphs) x there) [
        | inl own ↦ by_mark (is_marked_at copies first) refl own
        | inr later ↦
            let m = there_made copies (first + 1) graphs x later in
            record {
              j = suc m.j;
              below = omega (arith, m.below);
              made = subst (λ n. is_marked_at copies n ≡ true)
                  (let e : first + 1 + m.j ≡ first + suc m.j = omega arith in e) m.made;
              a = m.a;
              callee = m.callee;
            }
      ]
    where
      by_mark : (b : Bool) → is_marked_at copies first ≡ b →
          Contains (cond b (callees_in has_word graph.states) []) x →
          MadeCallee copies first (graph ∷ graphs) x
      by_mark true e own =
          let c = (all_called graph.states x).0 own in
          record {
            j = zero;
            below = omega arith;
            made = subst (λ n. is_marked_at copies n ≡ true)
                (let same : first ≡ first + zero = omega arith in same) e;
            a = c.0;
            callee = c.1;
          }
      by_mark false e own = absurd (nothing_in own)

  -- what gets a negative copy by a graph
  pub data Turns (copies negative : List Bool) (row : List Bool) (k : ℕ) (states : List State) (x : ℕ) :
      Type 0 where
    by_whole : is_marked_at negative k ≡ true → (a : ℕ) → Callee states a x →
        Turns copies negative row k states x
    by_state : is_marked_at copies k ≡ true → (a : ℕ) → is_marked_at row a ≡ true →
        Callee states a x → Turns copies negative row k states x

  turns_there : (copies negative row : List Bool) (k : ℕ) (states : List State) (x : ℕ) →
      Turns copies negative row k states x →
      Contains (turned_by has_word (is_marked_at negative k) (is_marked_at copies k) row states) x
  turns_there copies negative row k states x (by_whole marked a c) =
      subst (λ (b : Bool). Contains (turned_by has_word b (is_marked_at copies k) row states) x)
      (sym marked) ((all_called states x).1 (a, c))
  turns_there copies negative row k states x (by_state copied a marked c) =
      by_mark (is_marked_at negative k)
    where
      by_mark : (b : Bool) → Contains (turned_by has_word b (is_marked_at copies k) row states) x
      by_mark true = (all_called states x).1 (a, c)
      by_mark false =
          subst (λ (b : Bool). Contains (turned_by has_word false b row states) x) (sym copied)
          (marked_there row 0 states x (record {
            a = a;
            marked = subst (λ n. is_marked_at row n ≡ true)
                (let e : a ≡ 0 + a = omega arith in e) marked;
            callee = c;
          }))

  there_turns : (copies negative row : List Bool) (k : ℕ) (states : List State) (x : ℕ) →
      Contains (turned_by has_word (is_marked_at negative k) (is_marked_at copies k) row states) x →
      Turns copies negative row k states x
  there_turns copies negative row k states x there =
      by_marks (is_marked_at negative k) (is_marked_at copies k) refl refl there
    where
      by_marks : (n m : Bool) → is_marked_at negative k ≡ n → is_marked_at copies k ≡ m →
          Contains (turned_by has_word n m row states) x → Turns copies negative row k states x
      by_marks true m e f there =
          let c = (all_called states x).0 there in
          by_whole e c.0 c.1
      by_marks false true e f there =
          let m = there_marked row 0 states x there in
          by_state f m.a (subst (λ n. is_marked_at row n ≡ true)
          (let same : 0 + m.a ≡ m.a = omega arith in same) m.marked) m.callee
      by_marks false false e f there = absurd (nothing_in there)

  pub record TurnedCallee (copies negative : List Bool) (rows : List (List Bool)) (first : ℕ)
      (graphs : List StateGraph) (x : ℕ) : Type 0 where
    pub j : ℕ
    pub below : j < length graphs
    pub turns : Turns copies negative (get_or rows (first + j) []) (first + j)
        (told_in (slice_get graphs j)) x

  turned_there : (copies negative : List Bool) (rows : List (List Bool)) (first : ℕ)
      (graphs : List StateGraph) (x j : ℕ) → j < length graphs →
      Turns copies negative (get_or rows (first + j) []) (first + j) (told_in (slice_get graphs j)) x →
      Contains (turned_callees has_word copies negative rows first graphs) x
  turned_there copies negative rows first [] x j below t = absurd (omega (arith, below))
  turned_there copies negative rows first (graph ∷ graphs) x zero below t =
      Contains-append_left (turned_by has_word (is_marked_at negative first)
      (is_marked_at copies first) (get_or rows first []) graph.states)
      (turned_callees has_word copies negative rows (first + 1) graphs) x
      (turns_there copies negative (get_or rows first []) first graph.states x
      (subst (λ n. Turns copies negative (get_or rows n []) n graph.states x)
      (let e : first + zero ≡ first = omega arith in e) t))
  turned_there copies negative rows first (graph ∷ graphs) x (suc j) below t =
      Contains-append_right (turned_by has_word (is_marked_at negative first)
      (is_marked_at copies first) (get_or rows first []) graph.states)
      (turned_callees has_word copies negative rows (first + 1) graphs) x
      (turned_there copies negative rows (first + 1) graphs x j (omega (arith, below))
      (subst (λ n. Turns copies negative (get_or rows n []) n (told_in (slice_get graphs j)) x)
      (let e : first + suc j ≡ first + 1 + j = omega arith in e) t))

  pub there_turned : (copies negative : List Bool) (rows : List (List Bool)) (first : ℕ)
      (graphs : List StateGraph) (x : ℕ) →
      Contains (turned_callees has_word copies negative rows first graphs) x →
      TurnedCallee copies negative rows first graphs x
  there_turned copies negative rows first [] x there = absurd (nothing_in there)
  there_turned copies negative rows first (graph ∷ graphs) x there =
      elim (Contains-append_cases (turned_by has_word (is_marked_at negative first)
      (is_marked_at copies first) (get_or rows first []) graph.states)
      (turned_callees has_word copies negative rows (first + 1) graphs) x there) [
        | inl own ↦ record {
          j = zero;
          below = omega arith;
          turns = subst (λ n. Turns copies negative (get_or rows n []) n graph.states x)
              (let e : first ≡ first + zero = omega arith in e)
              (there_turns copies negative (get_or rows first []) first graph.states x own);
        }
        | inr later ↦
            let m = there_turned copies negative rows (first + 1) graphs x later in
            record {
              j = suc m.j;
              below = omega (arith, m.below);
              turns = subst (λ n. Turns copies negative (get_or rows n []) n
                  (told_in (slice_get graphs m.j)) x)
                  (let e : first + 1 + m.j ≡ first + suc m.j = omega arith in e) m.turns;
            }
      ]

module _ (graphs : List StateGraph) (has_word : ℕ → Bool) (tells : TellsWords graphs has_word)
    (rows : List (List Bool)) (negative_rows : AreNegativeRows graphs rows) (depth : ℕ) where
  abbrev grammar : Grammar
  grammar = state_grammar graphs

  abbrev Copy : (g d : ℕ) → Type 0
  Copy = HasCopy grammar depth

  abbrev NegativeCopy : (g d : ℕ) → Type 0
  NegativeCopy = HasNegativeCopy grammar depth

  -- no copy is made above the depth
  at_most : {g d : ℕ} → Copy g d → d ≤ depth
  at_most main = omega arith
  at_most (by_call step copy calls word) = omega (arith, at_most copy)

  negative_below : {g d : ℕ} → NegativeCopy g d → d < depth
  negative_below (by_step step copy calls word at) = omega (arith, at_most copy)
  negative_below (by_caller step copy calls word) = omega (arith, negative_below copy)

  -- a graph with a step is there
  graph_of_step : (g : ℕ) (s : Step) → IsNetStep (told_states graphs g) s →
      (j : ℕ) × (j < length graphs) × (g ≡ suc j)
  graph_of_step zero s i = (let none : None ≡ Some i.state = i.found in cc)
  graph_of_step (suc j) s i = elim (less_or j (length graphs)) [
    | inl lt ↦ (j, lt, refl)
    | inr le ↦
        let found : slice_get (told_in (slice_get graphs j)) s.from ≡ Some i.state = i.found in
        absurd (no_state (subst (λ (o : Option StateGraph). slice_get (told_in o) s.from ≡ Some i.state)
        (past graphs j le) found))
  ]
    where
      no_state : None ≡ Some i.state → ⊥
      no_state e = cc

  -- the step of a call, and the callee
  callee_of_step : (g h : ℕ) (s : Step) (calls : Calls grammar g h s) → HasWord grammar h →
      Callee has_word (told_states graphs g) s.from (h - 1)
  callee_of_step g h s calls word =
      let i = calls.inside in
      let both : i.edge.label ∷ [] ≡ Call h ∷ [] = sym i.label ∙ calls.calls in
      let is : i.edge.label ≡ Call h = cc in
      record {
        state = i.state;
        found = i.found;
        edge = i.edge;
        inside = i.inside;
        h = h;
        calls = ap called is;
        word = (tells h).1 word;
        is = refl;
      }

  pub record Caller (g a x : ℕ) : Type 0 where
    pub step : Step
    pub from : step.from ≡ a
    pub calls : Calls grammar g (x + 1) step
    pub word : HasWord grammar (x + 1)

  caller_of : (g a x : ℕ) → Callee has_word (told_states graphs g) a x → Caller g a x
  caller_of g a x c =
      let has = (tells c.h).0 c.word in
      let same : c.h ≡ x + 1 = by_number c.h has c.is in
      let label = called_is c.edge.label c.h c.calls in
      let s : Step = record {
        from = a;
        to = c.edge.target;
        output = c.edge.output;
        labels = c.edge.label ∷ [];
      } in
      record {
        step = s;
        from = refl;
        calls = record {
          inside = record {
            state = c.state;
            found = c.found;
            edge = c.edge;
            inside = c.inside;
            to = refl;
            label = refl;
            puts = refl;
          };
          calls = ap (λ (x : Label). x ∷ []) (label ∙ ap Call same);
        };
        word = subst (HasWord grammar) same has;
      }
    where
      no_state : (n : ℕ) (state : State) → None ≡ Some state → ⊥
      no_state n state e = cc

      by_number : (h : ℕ) → HasWord grammar h → h - 1 ≡ x → h ≡ x + 1
      by_number zero w e = absurd (no_state w.1.last w.1.ends.state w.1.ends.found)
      by_number (suc h) w e = omega (arith, e)

  negative_step : (j a : ℕ) → j < length graphs → a < length (told_states graphs (suc j)) →
      is_marked_at (get_or rows j []) a ≡ true → (s : Step) → s.from ≡ a →
      IsNegativeStep grammar (suc j) s
  negative_step j a lt below_count marked s from =
      let at = (negative_rows.row j a lt
      (subst (λ g. a < length (told_states graphs g)) (sym (add-one j)) below_count)).0 marked in
      let here : IsNegativeAt grammar (suc j) s.from =
      subst₂ (IsNegativeAt grammar) (add-one j) (sym from) at in
      record { first = here.first; unit = here.unit; word = here.word; run = here.run }

  row_marked : (g : ℕ) (s : Step) → IsNetStep (told_states graphs g) s → (j : ℕ) →
      j < length graphs → g ≡ suc j → IsNegativeStep grammar g s →
      is_marked_at (get_or rows j []) s.from ≡ true
  row_marked g s i j lt at n =
      let count : s.from < length (told_states graphs (j + 1)) =
      subst (λ g. s.from < length (told_states graphs g)) (at ∙ sym (add-one j))
      (slice_get_within (told_states graphs g) s.from i.state i.found) in
      (negative_rows.row j s.from lt count).1
      (subst (λ g. IsNegativeAt grammar g s.from) (at ∙ sym (add-one j))
      (record { first = n.first; unit = n.unit; word = n.word; run = n.run }))

  module _ (d : ℕ) (made below : Made) (deeper : suc d ≤ depth) (are : AreMade graphs depth (suc d) made)
      (copies : (x : ℕ) → (is_marked_at below.copies.items x ≡ true)
      ↔ Contains (made_callees has_word made.copies.items 0 graphs) x)
      (negative : (x : ℕ) → (is_marked_at below.negative.items x ≡ true)
      ↔ Contains (turned_callees has_word made.copies.items made.negative.items rows 0 graphs) x) where
    copy_told : (k : ℕ) → is_marked_at below.copies.items k ≡ true → Copy (k + 1) d
    copy_told k marked =
        let m = there_made has_word made.copies.items 0 graphs k ((copies k).0 marked) in
        let copied : Copy (m.j + 1) (suc d) = (are.copy m.j m.below).0
        (subst (λ n. is_marked_at made.copies.items n ≡ true)
        (let e : 0 + m.j ≡ m.j = omega arith in e) m.made) in
        let c = caller_of (suc m.j) m.a k m.callee in
        by_call c.step (subst (λ g. Copy g (suc d)) (add-one m.j) copied) c.calls c.word

    copy_marked : {g e : ℕ} → Copy g e → (k : ℕ) → g ≡ k + 1 → e ≡ d →
        is_marked_at below.copies.items k ≡ true
    copy_marked main k at same = absurd (omega (arith, same, deeper))
    copy_marked (by_call {g = g} {h = h} step copy calls word) k at same =
        let graph = graph_of_step g step calls.inside in
        let mark = (are.copy graph.0 graph.1).1
        (subst₂ Copy (graph.2 ∙ sym (add-one graph.0)) (ap suc same) copy) in
        let x : h - 1 ≡ k = omega (arith, at) in
        (copies k).1 (made_there has_word made.copies.items 0 graphs k graph.0 graph.1
        (subst (λ n. is_marked_at made.copies.items n ≡ true)
        (let e : graph.0 ≡ 0 + graph.0 = omega arith in e) mark) step.from
        (subst₂ (λ g x. Callee has_word (told_states graphs g) step.from x) graph.2 x
        (callee_of_step g h step calls word)))

    negative_told : (k : ℕ) → is_marked_at below.negative.items k ≡ true → NegativeCopy (k + 1) d
    negative_told k marked = by_turn m.turns
      where
        m : TurnedCallee has_word made.copies.items made.negative.items rows 0 graphs k
        m = there_turned has_word made.copies.items made.negative.items rows 0 graphs k
            ((negative k).0 marked)

        plain : 0 + m.j ≡ m.j
        plain = omega arith

        by_turn : Turns has_word made.copies.items made.negative.items (get_or rows (0 + m.j) [])
            (0 + m.j) (told_in (slice_get graphs m.j)) k → NegativeCopy (k + 1) d
        by_turn (by_whole whole a c) =
            let copied : NegativeCopy (m.j + 1) (suc d) = (are.negative m.j m.below).0
            (subst (λ n. is_marked_at made.negative.items n ≡ true) plain whole) in
            let call = caller_of (suc m.j) a k c in
            by_caller call.step (subst (λ g. NegativeCopy g (suc d)) (add-one m.j) copied) call.calls
            call.word
        by_turn (by_state copied_mark a row_mark c) =
            let copied : Copy (m.j + 1) (suc d) = (are.copy m.j m.below).0
            (subst (λ n. is_marked_at made.copies.items n ≡ true) plain copied_mark) in
            let call = caller_of (suc m.j) a k c in
            let count = slice_get_within (told_in (slice_get graphs m.j)) a c.state c.found in
            by_step call.step (subst (λ g. Copy g (suc d)) (add-one m.j) copied) call.calls call.word
            (negative_step m.j a m.below count
            (subst (λ n. is_marked_at (get_or rows n []) a ≡ true) plain row_mark) call.step call.from)

    negative_marked : {g e : ℕ} → NegativeCopy g e → (k : ℕ) → g ≡ k + 1 → e ≡ d →
        is_marked_at below.negative.items k ≡ true
    negative_marked (by_step {g = g} {h = h} step copy calls word n) k at same =
        let graph = graph_of_step g step calls.inside in
        let j = graph.0 in
        let plain : j ≡ 0 + j = omega arith in
        let mark = (are.copy j graph.1).1
        (subst₂ Copy (graph.2 ∙ sym (add-one j)) (ap suc same) copy) in
        let row = row_marked g step calls.inside j graph.1 graph.2 n in
        let x : h - 1 ≡ k = omega (arith, at) in
        (negative k).1 (turned_there has_word made.copies.items made.negative.items rows 0 graphs k j
        graph.1 (subst (λ n. Turns has_word made.copies.items made.negative.items (get_or rows n []) n
        (told_in (slice_get graphs j)) k) plain (by_state mark step.from row
        (subst₂ (λ g x. Callee has_word (told_states graphs g) step.from x) graph.2 x
        (callee_of_step g h step calls word)))))
    negative_marked (by_caller {g = g} {h = h} step copy calls word) k at same =
        let graph = graph_of_step g step calls.inside in
        let j = graph.0 in
        let plain : j ≡ 0 + j = omega arith in
        let mark = (are.negative j graph.1).1
        (subst₂ NegativeCopy (graph.2 ∙ sym (add-one j)) (ap suc same) copy) in
        let x : h - 1 ≡ k = omega (arith, at) in
        (negative k).1 (turned_there has_word made.copies.items made.negative.items rows 0 graphs k j
        graph.1 (subst (λ n. Turns has_word made.copies.items made.negative.items (get_or rows n []) n
        (told_in (slice_get graphs j)) k) plain (by_whole mark step.from
        (subst₂ (λ g x. Callee has_word (told_states graphs g) step.from x) graph.2 x
        (callee_of_step g h step calls word)))))

    -- the law
    pub made_deeper : AreMade graphs depth d below
    made_deeper = record {
      copy = λ k lt. (copy_told k, λ copy. copy_marked copy k refl refl);
      negative = λ k lt. (negative_told k, λ copy. negative_marked copy k refl refl);
    }

  -- at the depth the main graph has a copy alone
  pub made_first : (made : Made) →
      ((k : ℕ) → (is_marked_at made.copies.items k ≡ true) ↔ (k ≡ 0)) →
      ((k : ℕ) → is_marked_at made.negative.items k ≡ true → ⊥) → AreMade graphs depth depth made
  made_first made copies none = record {
    copy = λ k lt. (
      λ marked. subst (λ n. Copy n depth)
          (let zero_at = (copies k).0 marked in let e : 1 ≡ k + 1 = omega (arith, zero_at) in e) main,
      λ copy. (copies k).1 (main_alone copy k refl refl),
    );
    negative = λ k lt. (
      λ marked. absurd (none k marked),
      λ copy. absurd (omega (arith, negative_below copy)),
    );
  }
    where
      main_alone : {g e : ℕ} → Copy g e → (k : ℕ) → g ≡ k + 1 → e ≡ depth → k ≡ 0
      main_alone main k at same = omega (arith, at)
      main_alone (by_call step copy calls word) k at same =
          absurd (omega (arith, at_most copy, same))

  -- At depth 0: where a call is cut off inside a context that may not follow.
  module _ (made : Made) (are : AreMade graphs depth 0 made) where
    abbrev IsCutHere : (g node : ℕ) → Type 0
    IsCutHere = IsCutState graphs rows made

    -- a graph with a state is there
    graph_there : (k node : ℕ) (state : State) →
        slice_get (told_states graphs (suc k)) node ≡ Some state → k < length graphs
    graph_there k node state found = elim (less_or k (length graphs)) [
      | inl lt ↦ lt
      | inr le ↦ absurd (no_state (subst (λ (o : Option StateGraph).
          slice_get (told_in o) node ≡ Some state) (past graphs k le) found))
    ]
      where
        no_state : None ≡ Some state → ⊥
        no_state e = cc

    cut_at : (k node : ℕ) → IsCutAt (told_states graphs (suc k)) (get_or rows k [])
        (is_marked_at made.negative.items k) (is_marked_at made.copies.items k) node →
        IsNegativeCut grammar depth (suc k) node
    cut_at k node at = record {
      step = s;
      called = call.h;
      calls = calls;
      from = refl;
      cut = by_marks at.cut;
    }
      where
        call : HasCall at.state.edges
        call = at.call

        s : Step
        s = record {
          from = node;
          to = at.call.edge.target;
          output = at.call.edge.output;
          labels = at.call.edge.label ∷ [];
        }

        calls : Calls grammar (suc k) at.call.h s
        calls = record {
          inside = record {
            state = at.state;
            found = at.found;
            edge = at.call.edge;
            inside = at.call.inside;
            to = refl;
            label = refl;
            puts = refl;
          };
          calls = ap (λ (x : Label). x ∷ []) (called_is at.call.edge.label at.call.h at.call.calls);
        }

        below : k < length graphs
        below = graph_there k node at.state at.found

        by_marks : (is_marked_at made.negative.items k ≡ true)
            ⊎ ((is_marked_at made.copies.items k ≡ true) × (is_marked_at (get_or rows k []) node ≡ true)) →
            NegativeCopy (suc k) 0 ⊎ (Copy (suc k) 0 × IsNegativeStep grammar (suc k) s)
        by_marks (inl whole) =
            inl (subst (λ g. NegativeCopy g 0) (add-one k) ((are.negative k below).0 whole))
        by_marks (inr both) = inr (
          subst (λ g. Copy g 0) (add-one k) ((are.copy k below).0 both.0),
          negative_step k node below (slice_get_within (told_states graphs (suc k)) node at.state at.found)
              both.1 s refl,
        )

    pub cut_told : (g node : ℕ) → IsCutHere g node → IsNegativeCut grammar depth g node
    cut_told g node here =
        subst (λ g. IsNegativeCut grammar depth g node) (sym here.at)
        (cut_at here.k node (subst (λ g. IsCutAt (told_states graphs g) (get_or rows here.k [])
        (is_marked_at made.negative.items here.k) (is_marked_at made.copies.items here.k) node) here.at
        here.cut))

    pub told_cut : (g node : ℕ) → IsNegativeCut grammar depth g node → IsCutHere g node
    told_cut g node cut =
        let i = cut.calls.inside in
        let graph = graph_of_step g cut.step i in
        let k = graph.0 in
        let both : i.edge.label ∷ [] ≡ Call cut.called ∷ [] = sym i.label ∙ cut.calls.calls in
        let is : i.edge.label ≡ Call cut.called = cc in
        record {
          k = k;
          at = graph.2;
          cut = record {
            state = i.state;
            found = subst (λ n. slice_get (told_states graphs g) n ≡ Some i.state) cut.from i.found;
            call = record { edge = i.edge; inside = i.inside; h = cut.called; calls = ap called is };
            cut = by_cut k graph.1 graph.2 cut.cut;
          };
        }
      where
        by_cut : (k : ℕ) → k < length graphs → g ≡ suc k →
            NegativeCopy g 0 ⊎ (Copy g 0 × IsNegativeStep grammar g cut.step) →
            (is_marked_at made.negative.items k ≡ true)
            ⊎ ((is_marked_at made.copies.items k ≡ true) × (is_marked_at (get_or rows k []) node ≡ true))
        by_cut k lt at (inl whole) = inl ((are.negative k lt).1
            (subst (λ g. NegativeCopy g 0) (at ∙ sym (add-one k)) whole))
        by_cut k lt at (inr both) = inr (
          (are.copy k lt).1 (subst (λ g. Copy g 0) (at ∙ sym (add-one k)) both.0),
          subst (λ n. is_marked_at (get_or rows k []) n ≡ true) cut.from
              (row_marked g cut.step cut.calls.inside k lt at both.1),
        )
