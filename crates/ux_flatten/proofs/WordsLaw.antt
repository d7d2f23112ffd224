-- The theorem by which a graph has a word where any path leads from its first state to a final one: along
-- a path the contexts that are open form a stack, and where one is closed, the run goes on from its
-- opening step. None is closed that isn't open, and none is open at an end.
use Rattle.std.proofs.Common.{arith, ◌≡◌, ℕ, zero, suc, ◌+◌, ◌<◌, ◌≤◌, inl, inr, ◌↔◌, List, [], ◌∷◌, ◌++◌, Some, refl, sym, subst, ap, ◌∙◌, length, get_or, slice_get, Bool, true, false, IsTrue}
use Rattle.std.specs.Prelude.{Option, None, Contains}
use Rattle.std.proofs.lemmas.List.{get_or_append_left, get_or_past, get_or_push, length-map}
use Rattle.std.proofs.lemmas.Option.{slice_get-get_or, slice_get_within}
use Rattle.ux_base.proofs.JoinedLists.{contains_mapped, contained_mapped}
use Rattle.ux_base.proofs.Lists.{less_or, nothing_in}
use Rattle.ux_digraph.specs.Paths.{row_of, IsInside, Reaches, here, step}
use Rattle.ux_digraph.proofs.PathsLemmas.{reaches_joined}
use Rattle.ux_net.specs.declared.state.Edge.{Edge}
use Rattle.ux_net.specs.declared.state.State.{State}
use Rattle.ux_net.specs.declared.state_graph.StateGraph.{StateGraph}
use Rattle.ux_net.specs.Nets.{IsNetStep, IsNetEnd, net_graph}
use Rattle.ux_net.specs.StateGraphs.{AreInsideStates, state_grammar, told_in, told_states}
use Rattle.ux_net.specs.Words.{Sign, Mark, Letter, Step, Grammar, ordinary, opens, closes, mark_of, Run, stop, along, across}
use Rattle.ux_net.proofs.RunLemmas.{run_joined, one_step, over_step}
use Rattle.ux_admission.specs.ContextClose.{AreClosed}
use Rattle.ux_flatten.specs.Cuts.{HasWord}
use Rattle.ux_flatten.specs.Flattening.{TellsWords}
use Rattle.ux_flatten.specs.Making.{word_at}
use Rattle.ux_flatten.specs.Paths.{target_of, target_rows, targets_in, LeadsToEnd, StayInside}

-- an edge of a row is one of the state's
pub record RowEdge (states : List State) (a b : ℕ) : Type 0 where
  pub state : State
  pub found : slice_get states a ≡ Some state
  pub edge : Edge
  pub inside : Contains state.edges edge
  pub target : edge.target ≡ b

pub row_edge : (states : List State) (a b : ℕ) → Contains (row_of (target_rows states) a) b →
    RowEdge states a b
row_edge [] a b there = absurd (nothing_in there)
row_edge (state ∷ states) zero b there =
    let e = contained_mapped target_of state.edges b there in
    record { state = state; found = refl; edge = e.0; inside = e.1; target = e.2 }
row_edge (state ∷ states) (suc a) b there =
    let e = row_edge states a b there in
    record { state = e.state; found = e.found; edge = e.edge; inside = e.inside; target = e.target }

pub edge_row : (states : List State) (a : ℕ) (state : State) (edge : Edge) →
    slice_get states a ≡ Some state → Contains state.edges edge →
    Contains (row_of (target_rows states) a) edge.target
edge_row [] a state edge found inside = (let none : None ≡ Some state = found in cc)
edge_row (one ∷ states) zero state edge found inside =
    let same : one ≡ state = cc in
    contains_mapped target_of one.edges edge
    (subst (λ (s : State). Contains s.edges edge) (sym same) inside)
edge_row (one ∷ states) (suc a) state edge found inside = edge_row states a state edge found inside

-- nothing stands behind a list's end
pub past : {A : Type 0} (xs : List A) (k : ℕ) → length xs ≤ k → slice_get xs k ≡ None
past [] k le = refl
past (x ∷ xs) zero le = absurd (omega (arith, le))
past (x ∷ xs) (suc k) le = past xs k (omega (arith, le))

-- the rows stay inside where the edges do
pub rows_inside : (states : List State) → StayInside states → IsInside (target_rows states)
rows_inside states inside = record {
  inside = λ u v there.
      let e = row_edge states u v there in
      let below = inside u e.state e.edge e.found e.inside in
      omega (arith, below, e.target, length-map states targets_in);
}

module _ (graphs : List StateGraph) (closed : AreClosed (state_grammar graphs)) (g : ℕ) where
  abbrev grammar : Grammar
  grammar = state_grammar graphs

  abbrev states : List State
  states = told_states graphs g

  abbrev rows : List (List ℕ)
  rows = target_rows states

  abbrev Runs : ℕ → ℕ → List Letter → Type 0
  Runs = Run g (net_graph states)

  step_row : (s : Step) → IsNetStep states s → Contains (row_of rows s.from) s.to
  step_row s i = subst (λ b. Contains (row_of rows s.from) b) (sym i.to)
      (edge_row states s.from i.state i.edge i.found i.inside)

  run_reaches : {a b : ℕ} {word : List Letter} → Runs a b word → Reaches rows a b
  run_reaches stop = here
  run_reaches (along s i mark run) = step (step_row s i) (run_reaches run)
  run_reaches (across sign s t i opening inner j closing run) =
      step (step_row s i) (reaches_joined rows (run_reaches inner) (step (step_row t j) (run_reaches run)))

  -- from state 0 to the state, with contexts that are still open
  data Nest : ℕ → Type 0 where
    top : {x : ℕ} (word : List Letter) → Runs 0 x word → Nest x
    inner : {x : ℕ} (sign : Sign) (s : Step) (word : List Letter) → Nest s.from →
        IsNetStep states s → mark_of s.labels ≡ opens sign → Runs s.to x word → Nest x

  nest_on : {x y : ℕ} {word : List Letter} → Nest x → Runs x y word → Nest y
  nest_on {word = more} (top word run) on =
      top _ (run_joined g (net_graph states) run on)
  nest_on {word = more} (inner sign s word nest i opening run) on =
      inner sign s _ nest i opening (run_joined g (net_graph states) run on)

  closing_step : (t : Step) → IsNetStep states t → mark_of t.labels ≡ closes → Nest t.from →
      Nest t.to
  closing_step t j closing nest = by_nest nest refl
    where
      by_nest : {x : ℕ} → Nest x → x ≡ t.from → Nest t.to
      by_nest (top word run) at = absurd (closed g t.to (inr (inr (
        word,
        record {
          step = t;
          inside = j;
          closed = closing;
          after = refl;
          run = subst (λ x. Runs 0 x word) at run;
        },
      ))))
      by_nest (inner sign s word nest i opening run) at =
          nest_on nest (over_step g (net_graph states) sign s i opening (record {
            step = t;
            inside = j;
            closed = closing;
            after = refl;
            run = subst (λ x. Runs s.to x word) at run;
          }))

  on_step : (s : Step) → IsNetStep states s → (m : Mark) → mark_of s.labels ≡ m → Nest s.from →
      Nest s.to
  on_step s i ordinary mark nest = nest_on nest (one_step g (net_graph states) s i mark)
  on_step s i (opens sign) mark nest = inner sign s [] nest i mark stop
  on_step s i closes mark nest = closing_step s i mark nest

  on_path : {x y : ℕ} → Reaches rows x y → Nest x → Nest y
  on_path here nest = nest
  on_path (step {u = u} {v = v} there rest) nest =
      let e = row_edge states u v there in
      let s : Step = record {
        from = u;
        to = v;
        output = e.edge.output;
        labels = e.edge.label ∷ [];
      } in
      let i : IsNetStep states s = record {
        state = e.state;
        found = e.found;
        edge = e.edge;
        inside = e.inside;
        to = sym e.target;
        label = refl;
        puts = refl;
      } in
      on_path rest (on_step s i (mark_of s.labels) refl nest)

  at_end : (n : ℕ) → IsNetEnd states n → Nest n → HasWord grammar g
  at_end n ends nest = by_nest nest refl
    where
      by_nest : {x : ℕ} → Nest x → x ≡ n → HasWord grammar g
      by_nest (top word run) at =
          (word, record { last = n; ends = ends; run = subst (λ x. Runs 0 x word) at run })
      by_nest (inner sign s word nest i opening run) at = absurd (closed g s.to (inl (inr (record {
        sign = sign;
        opening = record { step = s; of_graph = i; to = refl; opens = opening };
        last = n;
        ends = ends;
        word = word;
        run = subst (λ x. Runs s.to x word) at run;
      }))))

  pub has_word_by : LeadsToEnd states ↔ HasWord grammar g
  has_word_by = (
    λ p. at_end p.0 p.1 (on_path p.2 (top [] stop)),
    λ w. (w.1.last, w.1.ends, run_reaches w.1.run),
  )

-- What is known of a graph by its number.
module _ (graphs : List StateGraph) (i : ℕ) (graph : StateGraph) (below : i < length graphs)
    (at : graph ≡ get_or graphs i graph) where
  pub found_graph : slice_get graphs i ≡ Some graph
  found_graph = slice_get-get_or graphs i graph below ∙ ap Some (sym at)

  pub states_of_graph : told_states graphs (suc i) ≡ graph.states
  states_of_graph = ap told_in found_graph

  pub some_state : AreInsideStates graphs → (states : List State) → states ≡ graph.states →
      0 < length states
  some_state inside list is =
      subst (λ (l : List State). 0 < length l) (sym is) (inside.start (suc i) graph found_graph)

  pub stay_inside : AreInsideStates graphs → (states : List State) → states ≡ graph.states →
      StayInside states
  stay_inside inside states is n state edge found there =
      let told : told_states graphs (suc i) ≡ states = states_of_graph ∙ sym is in
      let known = inside.edges (suc i) n state edge
      (ap (λ (l : List State). slice_get l n) told ∙ found) there in
      subst (λ (l : List State). edge.target < length l) told known.target

  -- one mark more
  pub marks_more : (marks now : List Bool) (mark : Bool) (states : List State) →
      states ≡ graph.states → length marks ≡ i → now ≡ marks ++ mark ∷ [] →
      ((k : ℕ) → k < i → IsTrue (get_or marks k false) ↔ LeadsToEnd (told_states graphs (suc k))) →
      (IsTrue mark ↔ LeadsToEnd states) →
      (k : ℕ) → k < i + 1 → IsTrue (get_or now k false) ↔ LeadsToEnd (told_states graphs (suc k))
  marks_more marks now mark states is len grown before last k lt = elim (less_or k i) [
    | inl small ↦
        subst (λ (b : Bool). IsTrue b ↔ LeadsToEnd (told_states graphs (suc k)))
        (sym (ap (λ (l : List Bool). get_or l k false) grown
        ∙ get_or_append_left marks (mark ∷ []) false k (omega (arith, small, len)))) (before k small)
    | inr le ↦
        let same : i ≡ k = omega (arith, lt, le) in
        let told : states ≡ told_states graphs (suc k) =
        is ∙ (sym states_of_graph ∙ ap (λ n. told_states graphs (suc n)) same) in
        subst (λ (b : Bool). IsTrue b ↔ LeadsToEnd (told_states graphs (suc k)))
        (sym (ap (λ (l : List Bool). get_or l k false) grown
        ∙ get_or_push marks mark false k (len ∙ same)))
        (subst (λ (l : List State). IsTrue mark ↔ LeadsToEnd l) told last)
  ]

-- the law
pub words_told : (graphs : List StateGraph) → AreClosed (state_grammar graphs) → (marks : List Bool) →
    length marks ≡ length graphs →
    ((k : ℕ) → k < length graphs →
    IsTrue (get_or marks k false) ↔ LeadsToEnd (told_states graphs (suc k))) →
    TellsWords graphs (word_at marks)
words_told graphs closed marks len each zero = (
  λ t. absurd (let no : false ≡ true = t in cc),
  λ w. absurd (no_end w),
)
  where
    no_end : HasWord (state_grammar graphs) zero → ⊥
    no_end w =
        let within = slice_get_within [] w.1.last w.1.ends.state w.1.ends.found in
        omega (arith, within)
words_told graphs closed marks len each (suc k) = elim (less_or k (length graphs)) [
  | inl lt ↦
      let by = has_word_by graphs closed (suc k) in
      let is = each k lt in
      (λ t. by.0 (is.0 t), λ w. is.1 (by.1 w))
  | inr le ↦ (
    λ t. absurd (let no : false ≡ true = sym (get_or_past marks k false (omega (arith, le, len))) ∙ t in cc),
    λ w. absurd (no_end (w.1.last) (subst (λ (g : Option StateGraph). IsNetEnd (told_in g) w.1.last)
        (past graphs k le) w.1.ends)),
  )
]
  where
    no_end : (n : ℕ) → IsNetEnd [] n → ⊥
    no_end n ends =
        let within = slice_get_within [] n ends.state ends.found in
        omega (arith, within)
