-- The first state of the first graph that is found, and lists that grow.
use Rattle.std.proofs.Common.{arith, ◌≡◌, inl, inr, ℕ, zero, suc, ◌+◌, ◌<◌, ◌≤◌, List, [], ◌++◌, Some, refl, sym, subst, subst₂, ap, ◌∙◌, add-one, append-nil, length, get_or, slice_get, drop, Bool, cond, Contains}
use Rattle.std.specs.Prelude.{Option, None}
use Rattle.std.proofs.lemmas.List.{get_or_default}
use Rattle.std.proofs.lemmas.Option.{get_or_from_slice_get, slice_get-get_or, slice_get_within}
use Rattle.ux_base.proofs.Lists.{drop_whole, less_or}
use Rattle.ux_digraph.specs.Rules.{is_marked_at}
use Rattle.ux_base.proofs.OrderedLists.{place_of}
use Rattle.ux_net.specs.declared.state.Edge.{Edge}
use Rattle.ux_net.specs.declared.state.State.{State}
use Rattle.ux_net.specs.Nets.{IsCalled}
use Rattle.ux_net.specs.declared.state_graph.StateGraph.{StateGraph}
use Rattle.ux_net.specs.StateGraphs.{AreInsideStates, state_grammar, told_in, told_states}
use Rattle.ux_boxes.specs.Refusing.{IsFirst}
use Rattle.ux_admission.specs.declared.spot.Spot.{Spot}
use Rattle.ux_admission.specs.Spots.{FindsFirst}
use Rattle.ux_flatten.specs.declared.cuts.Made.{Made}
use Rattle.ux_flatten.specs.Copies.{called}
use Rattle.ux_flatten.specs.Cuts.{IsNegativeCut}
use Rattle.ux_flatten.specs.Cutting.{callees_in, callees_of, made_callees, negative_callees, turned_by, turned_callees, Cuts, HasCall, IsCutAt, IsCutState}
use Rattle.ux_flatten.proofs.CutsLaw.{Callee, Turns, by_state, by_whole, there_made, there_turned}
use Rattle.ux_flatten.proofs.MakingLaw.{called_is}
use Rattle.ux_flatten.proofs.MakingLemmas.{dropped, some_more}
use Rattle.ux_flatten.proofs.WordsLaw.{past}

-- what finds the first of one kind finds the first of another that is the same
pub finds_same : (P Q : (g node : ℕ) → Type 0) → ((g node : ℕ) → P g node → Q g node) →
    ((g node : ℕ) → Q g node → P g node) → (found : Option Spot) → FindsFirst P found →
    FindsFirst Q found
finds_same P Q forth back None none = λ g node q. none g node (back g node q)
finds_same P Q forth back (Some spot) first = record {
  here = forth spot.graph spot.node first.here;
  first = λ h m lt q. first.first h m lt (back h m q);
  least = λ m lt q. first.least m lt (back spot.graph m q);
}

-- the numbers of a cut
pub cut_inside : (graphs : List StateGraph) → AreInsideStates graphs → (depth g node : ℕ) →
    IsNegativeCut (state_grammar graphs) depth g node →
    (1 ≤ g) × (g ≤ length graphs) × (node < 4294967296)
cut_inside graphs inside depth zero node cut =
    let none : None ≡ Some cut.calls.inside.state = cut.calls.inside.found in
    absurd (cc)
cut_inside graphs inside depth (suc k) node cut = by_graph (slice_get graphs k) refl
  where
    no_state : None ≡ Some cut.calls.inside.state → ⊥
    no_state e = cc

    by_graph : (graph : Option StateGraph) → slice_get graphs k ≡ graph →
        (1 ≤ suc k) × (suc k ≤ length graphs) × (node < 4294967296)
    by_graph None is = absurd (no_state (subst (λ (o : Option StateGraph).
        slice_get (told_in o) cut.step.from ≡ Some cut.calls.inside.state) is cut.calls.inside.found))
    by_graph (Some graph) is =
        let found : slice_get graph.states cut.step.from ≡ Some cut.calls.inside.state =
        subst (λ (o : Option StateGraph).
        slice_get (told_in o) cut.step.from ≡ Some cut.calls.inside.state) is cut.calls.inside.found in
        let below = slice_get_within graph.states cut.step.from cut.calls.inside.state found in
        let few = inside.few (suc k) graph is in
        let graph_below = slice_get_within graphs k graph is in
        (omega arith, omega (arith, graph_below), omega (arith, below, few, cut.from))

module _ (graphs : List StateGraph) (rows : List (List Bool)) (made : Made) where
  abbrev pub IsCutIn : (k node : ℕ) → Type 0
  IsCutIn k node = IsCutAt (told_states graphs (suc k)) (get_or rows k [])
      (is_marked_at made.negative.items k) (is_marked_at made.copies.items k) node

  -- none in the first graphs
  abbrev pub NoneBelow : ℕ → Type 0
  NoneBelow k = (j : ℕ) → j < k → (node : ℕ) → IsCutIn j node → ⊥

  pub none_more : (k : ℕ) → NoneBelow k → ((node : ℕ) → IsCutIn k node → ⊥) → NoneBelow (k + 1)
  none_more k before here j lt node cut = elim (less_or j k) [
    | inl small ↦ before j small node cut
    | inr le ↦
        let same : j ≡ k = omega (arith, lt, le) in
        here node (subst (λ n. IsCutIn n node) same cut)
  ]

  in_graph : (g node : ℕ) → (c : IsCutState graphs rows made g node) → IsCutIn c.k node
  in_graph g node c = subst (λ g. IsCutAt (told_states graphs g) (get_or rows c.k [])
      (is_marked_at made.negative.items c.k) (is_marked_at made.copies.items c.k) node) c.at c.cut

  pub first_found : (k node : ℕ) → NoneBelow k → IsCutIn k node →
      ((m : ℕ) → m < node → IsCutIn k m → ⊥) → IsFirst (IsCutState graphs rows made) (k + 1) node
  first_found k node before here least = record {
    here = subst (λ g. IsCutState graphs rows made g node) (sym (add-one k))
        (record { k = k; at = refl; cut = here });
    first = λ h m lt c. before c.k (omega (arith, lt, c.at)) m (in_graph h m c);
    least = λ m lt c.
        let same : c.k ≡ k = omega (arith, c.at) in
        least m lt (subst (λ n. IsCutIn n m) same (in_graph (k + 1) m c));
  }

  pub none_found : (n : ℕ) → NoneBelow n → length graphs ≤ n → (g node : ℕ) →
      IsCutState graphs rows made g node → ⊥
  none_found n before le g node c = elim (less_or c.k n) [
    | inl lt ↦ before c.k lt node (in_graph g node c)
    | inr more ↦
        let here = in_graph g node c in
        no_state here.state (subst (λ (o : Option StateGraph).
        slice_get (told_in o) node ≡ Some here.state) (past graphs c.k (omega (arith, le, more)))
        here.found)
  ]
    where
      no_state : (state : State) → None ≡ Some state → ⊥
      no_state state e = cc

-- one state of a graph
pub cut_here : (states : List State) (row : List Bool) (n c : Bool) (node : ℕ) (state : State) →
    node < length states → state ≡ get_or states node state →
    Cuts n c (is_marked_at row node) → HasCall state.edges → IsCutAt states row n c node
cut_here states row n c node state below at cuts call = record {
  state = state;
  found = slice_get-get_or states node state below ∙ ap Some (sym at);
  call = call;
  cut = cuts;
}

pub none_here : (states : List State) (row : List Bool) (n c : Bool) (node : ℕ) (state : State) →
    node < length states → state ≡ get_or states node state →
    (Cuts n c (is_marked_at row node) → HasCall state.edges → ⊥) →
    ((m : ℕ) → m < node → IsCutAt states row n c m → ⊥) → (m : ℕ) → m < node + 1 →
    IsCutAt states row n c m → ⊥
none_here states row n c node state below at never before m lt cut = elim (less_or m node) [
  | inl small ↦ before m small cut
  | inr le ↦
      let same : m ≡ node = omega (arith, lt, le) in
      let found : Some state ≡ Some cut.state =
      sym (slice_get-get_or states node state below ∙ ap Some (sym at))
      ∙ (ap (λ k. slice_get states k) (sym same) ∙ cut.found) in
      let one : state ≡ cut.state = cc in
      never (subst (λ k. Cuts n c (is_marked_at row k)) same cut.cut)
      (subst (λ (s : State). HasCall s.edges) (sym one) cut.call)
]

pub none_past : (states : List State) (row : List Bool) (n c : Bool) (node : ℕ) →
    length states ≤ node → ((m : ℕ) → m < node → IsCutAt states row n c m → ⊥) → (m : ℕ) →
    IsCutAt states row n c m → ⊥
none_past states row n c node le before m cut =
    before m (let w = slice_get_within states m cut.state cut.found in omega (arith, w, le)) cut

-- Lists that grow by what graphs and states call.
module _ (has_word : ℕ → Bool) where
  pub made_more : (copies : List Bool) (k : ℕ) (graphs : List StateGraph) (graph : StateGraph)
      (list now whole : List ℕ) → k < length graphs → graph ≡ get_or graphs k graph →
      list ++ made_callees has_word copies k (drop k graphs) ≡ whole →
      now ≡ list ++ cond (is_marked_at copies k) (callees_in has_word graph.states) [] →
      now ++ made_callees has_word copies (k + 1) (drop (k + 1) graphs) ≡ whole
  made_more copies k graphs graph list now whole lt at so_far grown =
      some_more list now (cond (is_marked_at copies k) (callees_in has_word graph.states) [])
      (made_callees has_word copies (k + 1) (drop (k + 1) graphs)) whole grown
      (subst (λ l. list ++ made_callees has_word copies k l ≡ whole) (dropped graphs k graph lt at)
      so_far)

  pub made_all : (copies : List Bool) (k : ℕ) (graphs : List StateGraph) (list whole : List ℕ) →
      length graphs ≤ k → list ++ made_callees has_word copies k (drop k graphs) ≡ whole →
      list ≡ whole
  made_all copies k graphs list whole le so_far =
      sym (append-nil list)
      ∙ (ap (λ l. list ++ made_callees has_word copies k l) (sym (drop_whole graphs k le)) ∙ so_far)

  pub turned_more : (copies negative : List Bool) (rows : List (List Bool)) (k : ℕ)
      (graphs : List StateGraph) (graph : StateGraph) (list now whole : List ℕ) →
      k < length graphs → graph ≡ get_or graphs k graph →
      list ++ turned_callees has_word copies negative rows k (drop k graphs) ≡ whole →
      now ≡ list ++ turned_by has_word (is_marked_at negative k) (is_marked_at copies k)
      (get_or rows k []) graph.states →
      now ++ turned_callees has_word copies negative rows (k + 1) (drop (k + 1) graphs) ≡ whole
  turned_more copies negative rows k graphs graph list now whole lt at so_far grown =
      some_more list now (turned_by has_word (is_marked_at negative k) (is_marked_at copies k)
      (get_or rows k []) graph.states)
      (turned_callees has_word copies negative rows (k + 1) (drop (k + 1) graphs)) whole grown
      (subst (λ l. list ++ turned_callees has_word copies negative rows k l ≡ whole)
      (dropped graphs k graph lt at) so_far)

  pub turned_all : (copies negative : List Bool) (rows : List (List Bool)) (k : ℕ)
      (graphs : List StateGraph) (list whole : List ℕ) → length graphs ≤ k →
      list ++ turned_callees has_word copies negative rows k (drop k graphs) ≡ whole → list ≡ whole
  turned_all copies negative rows k graphs list whole le so_far =
      sym (append-nil list)
      ∙ (ap (λ l. list ++ turned_callees has_word copies negative rows k l)
      (sym (drop_whole graphs k le)) ∙ so_far)

  pub negative_more : (row : List Bool) (a : ℕ) (states : List State) (state : State)
      (list now whole : List ℕ) → a < length states → state ≡ get_or states a state →
      list ++ negative_callees has_word row a (drop a states) ≡ whole →
      now ≡ list ++ cond (is_marked_at row a) (callees_of has_word state) [] →
      now ++ negative_callees has_word row (a + 1) (drop (a + 1) states) ≡ whole
  negative_more row a states state list now whole lt at so_far grown =
      some_more list now (cond (is_marked_at row a) (callees_of has_word state) [])
      (negative_callees has_word row (a + 1) (drop (a + 1) states)) whole grown
      (subst (λ l. list ++ negative_callees has_word row a l ≡ whole) (dropped states a state lt at)
      so_far)

  pub negative_all : (row : List Bool) (a : ℕ) (states : List State) (list whole : List ℕ) →
      length states ≤ a → list ++ negative_callees has_word row a (drop a states) ≡ whole →
      list ≡ whole
  negative_all row a states list whole le so_far =
      sym (append-nil list)
      ∙ (ap (λ l. list ++ negative_callees has_word row a l) (sym (drop_whole states a le)) ∙ so_far)

-- What is called is there.
module _ (graphs : List StateGraph) (inside : AreInsideStates graphs) (has_word : ℕ → Bool) where
  callee_below : (g a x : ℕ) → Callee has_word (told_states graphs g) a x → x < length graphs
  callee_below g a x c =
      let known = (inside.edges g a c.state c.edge c.found c.inside).called in
      let range : (1 ≤ c.h) × (c.h ≤ length graphs) =
      subst (IsCalled (length graphs)) (called_is c.edge.label c.h c.calls) known in
      omega (arith, range.0, range.1, c.is)

  pub made_inside : (copies : List Bool) (x : ℕ) →
      Contains (made_callees has_word copies 0 graphs) x → x < length graphs
  made_inside copies x there =
      let m = there_made has_word copies 0 graphs x there in
      callee_below (suc m.j) m.a x m.callee

  pub turned_inside : (copies negative : List Bool) (rows : List (List Bool)) (x : ℕ) →
      Contains (turned_callees has_word copies negative rows 0 graphs) x → x < length graphs
  turned_inside copies negative rows x there =
      let t = there_turned has_word copies negative rows 0 graphs x there in
      by_turn t.j t.turns
    where
      by_turn : (j : ℕ) → Turns has_word copies negative (get_or rows (0 + j) []) (0 + j)
          (told_in (slice_get graphs j)) x → x < length graphs
      by_turn j (by_whole whole a c) = callee_below (suc j) a x c
      by_turn j (by_state copied a marked c) = callee_below (suc j) a x c

-- no edge of the first ones calls
pub none_calls : (edges : List Edge) (i : ℕ) (edge : Edge) → i < length edges →
    edge ≡ get_or edges i edge → ((h : ℕ) → called edge.label ≡ Some h → ⊥) →
    ((k : ℕ) (x : Edge) (h : ℕ) → k < i → get_or edges k x ≡ x → called x.label ≡ Some h → ⊥) →
    (k : ℕ) (x : Edge) (h : ℕ) → k < i + 1 → get_or edges k x ≡ x → called x.label ≡ Some h → ⊥
none_calls edges i edge below at plain before k x h lt here calls = elim (less_or k i) [
  | inl small ↦ before k x h small here calls
  | inr le ↦
      let same : k ≡ i = omega (arith, lt, le) in
      let found : x ≡ edge =
      sym here ∙ (ap (λ n. get_or edges n x) same
      ∙ (get_or_default edges i x edge below ∙ sym at)) in
      plain h (subst (λ (e : Edge). called e.label ≡ Some h) found calls)
]

pub calls_none : (edges : List Edge) (i : ℕ) → length edges ≤ i →
    ((k : ℕ) (x : Edge) (h : ℕ) → k < i → get_or edges k x ≡ x → called x.label ≡ Some h → ⊥) →
    HasCall edges → ⊥
calls_none edges i le before call =
    let at = place_of edges call.edge call.inside in
    let below = slice_get_within edges at.0 call.edge at.1 in
    before at.0 call.edge call.h (omega (arith, below, le))
    (get_or_from_slice_get edges at.0 call.edge call.edge at.1) call.calls

-- the same of other names of what it is told of
pub cut_moved : (s t : List State) (r q : List Bool) (n m c d : Bool) (node : ℕ) → s ≡ t → r ≡ q →
    n ≡ m → c ≡ d → IsCutAt s r n c node → IsCutAt t q m d node
cut_moved s t r q n m c d node states row negative copied cut =
    subst (λ (b : Bool). IsCutAt t q m b node) copied
    (subst (λ (b : Bool). IsCutAt t q b c node) negative
    (subst₂ (λ (l : List State) (k : List Bool). IsCutAt l k n c node) states row cut))
