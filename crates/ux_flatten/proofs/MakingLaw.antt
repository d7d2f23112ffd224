-- A copy that is to be made is its states, followed by the copies in place of its calls, which are to be
-- made too.
use Rattle.std.proofs.Common.{arith, ◌≡◌, ℕ, zero, suc, ◌+◌, ◌-◌, ◌<◌, ◌≤◌, inl, inr, List, [], ◌∷◌, ◌++◌, Some, refl, sym, subst, ap, ◌∙◌, length, get_or, sum_by, Bool, cond, append_assoc, append-nil, length-append, reverse}
use Rattle.std.specs.Prelude.{Option, None, Contains}
use Rattle.std.proofs.lemmas.Bool.{lt-ltb}
use Rattle.std.proofs.lemmas.List.Elements.{Contains-append_left, Contains-append_right, Contains-append_cases}
use Rattle.std.proofs.lemmas.List.{reverse-append}
use Rattle.std.proofs.lemmas.List.Sums.{sum_by-cons}
use Rattle.ux_base.proofs.JoinedLists.{contained_joined}
use Rattle.ux_base.proofs.Lists.{contains_first, contains_later, first_or_later, nothing_in}
use Rattle.ux_base.proofs.OrderedLists.{place_of}
use Rattle.ux_net.specs.declared.label.Label.{Label}
use Rattle.ux_net.specs.declared.label.Label.TheVariants as label
use Rattle.ux_net.specs.declared.state.Edge.{Edge}
use Rattle.ux_net.specs.declared.state.State.{State}
use Rattle.ux_net.specs.declared.state_graph.StateGraph.{StateGraph}
use Rattle.ux_net.specs.Nets.{IsCalled}
use Rattle.ux_net.specs.StateGraphs.{AreInsideStates, told_in, told_states}
use Rattle.ux_flatten.specs.declared.pending.Pending.{Pending}
use Rattle.ux_flatten.specs.declared.source.Source.{Source}
use Rattle.ux_flatten.specs.Copies.{called, copied_by, copies, copy, copy_edge, copy_edges, copy_if, copy_state, copy_states, edges_of, end_edges, is_end, room, size, size_if}
use Rattle.ux_flatten.specs.Making.{AreSizes, capped, has_word, IsToMake, MANY, pending_if, pending_in, room_in, size_at, sizes_below, states_in, states_inner, states_left}
use Rattle.ux_flatten.proofs.CopyLayout.{get_some}
use Rattle.ux_flatten.proofs.CopyStates as told
use Rattle.ux_flatten.proofs.CopyStates.{copied_deeper, copy_below, copy_is}
use Rattle.ux_flatten.proofs.MakingLemmas.{left_joined, left_reverse}

-- an item of a list counts in the sum
item_within : {A : Type 0} (f : A → ℕ) (xs : List A) (x : A) → Contains xs x → f x ≤ sum_by f xs
item_within f [] x there = absurd (nothing_in there)
item_within f (y ∷ xs) x there = elim (first_or_later y xs x there) [
  | inl e ↦ (let same = ap f e in omega (arith, sum_by-cons f y xs, same))
  | inr later ↦ omega (arith, sum_by-cons f y xs, item_within f xs x later)
]

-- a label that calls
pub called_is : (x : Label) (h : ℕ) → called x ≡ Some h → x ≡ label.Call h
called_is (label.Call g) h e = cc
called_is x h e = (let none : None ≡ Some h = e in cc)

pub small_capped : (n : ℕ) → n < MANY → capped n ≡ n
small_capped n lt = ap (λ (b : Bool). cond b n MANY) (lt-ltb n MANY lt)

-- what a reversed list contains
contains_reversed : {A : Type 0} (xs : List A) (x : A) → Contains (reverse xs) x → Contains xs x
contains_reversed [] x there = there
contains_reversed (y ∷ xs) x there =
    elim (Contains-append_cases (reverse xs) (reverse (y ∷ [])) x
    (subst (λ l. Contains l x) (reverse-append (y ∷ []) xs) there)) [
      | inl later ↦ contains_later y xs x (contains_reversed xs x later)
      | inr own ↦ elim (first_or_later y [] x own) [
        | inl e ↦ subst (λ z. Contains (y ∷ xs) z) e (contains_first y xs)
        | inr none ↦ absurd (nothing_in none)
      ]
    ]

-- Rooms that are the same for each edge.
module _ (graphs : List StateGraph) (words : ℕ → Bool) (one other : ℕ → ℕ) (depth first : ℕ)
    (back : Option ℕ) where
  abbrev AreSame : List Edge → Type 0
  AreSame edges = (edge : Edge) → Contains edges edge →
      room graphs words one depth edge ≡ room graphs words other depth edge

  sums_same : (edges : List Edge) → AreSame edges →
      sum_by (room graphs words one depth) edges ≡ sum_by (room graphs words other depth) edges
  sums_same [] same = refl
  sums_same (edge ∷ edges) same = omega (
    arith,
    sum_by-cons (room graphs words one depth) edge edges,
    sum_by-cons (room graphs words other depth) edge edges,
    same edge (contains_first edge edges),
    sums_same edges (λ e there. same e (contains_later edge edges e there)),
  )

  edges_same : (edges : List Edge) (next : ℕ) → AreSame edges →
      copy_edges graphs words one depth first back next edges
      ≡ copy_edges graphs words other depth first back next edges
  edges_same [] next same = refl
  edges_same (edge ∷ edges) next same =
      let own = copy_edge graphs words one depth first back (copied_by graphs words depth edge) next edge in
      ap (λ l. own ∷ l) (edges_same edges (next + room graphs words one depth edge)
      (λ e there. same e (contains_later edge edges e there))
      ∙ ap (λ n. copy_edges graphs words other depth first back (next + n) edges)
      (same edge (contains_first edge edges)))

  states_same : (states : List State) (next : ℕ) → AreSame (edges_of states) →
      copy_states graphs words one depth first back next states
      ≡ copy_states graphs words other depth first back next states
  states_same [] next same = refl
  states_same (state ∷ states) next same =
      let here : AreSame state.edges =
      λ (e : Edge) (there : Contains state.edges e).
      same e (Contains-append_left state.edges (edges_of states) e there) in
      let later : AreSame (edges_of states) =
      λ (e : Edge) (there : Contains (edges_of states) e).
      same e (Contains-append_right state.edges (edges_of states) e there) in
      let rest = copy_states graphs words one depth first back
      (next + sum_by (room graphs words one depth) state.edges) states in
      ap (λ (edges : List Edge). record {
        is_final = is_end back state.is_final;
        edges = edges ++ end_edges back state.is_final;
      } ∷ rest) (edges_same state.edges next here)
      ∙ ap (λ l. copy_state graphs words other depth first back next state ∷ l)
      (states_same states (next + sum_by (room graphs words one depth) state.edges) later
      ∙ ap (λ n. copy_states graphs words other depth first back (next + n) states)
      (sums_same state.edges here))

module _ (source : Source) (depth : ℕ) (inside : AreInsideStates source.graphs.items)
    (sizes : AreSizes source.graphs.items (has_word source) depth source.sizes.items) where
  abbrev graphs : List StateGraph
  graphs = source.graphs.items

  abbrev words : ℕ → Bool
  words = has_word source

  abbrev states_at : ℕ → List State
  states_at g = told_states graphs g

  abbrev size_of : (d g : ℕ) → ℕ
  size_of d g = size graphs words d g

  -- what is copied in place of an edge of a graph
  pub record IsCallee (d g h : ℕ) : Type 0 where
    pub from : 1 ≤ h
    pub to : h ≤ length graphs
    pub fits : size_of d h ≤ size_of (suc d) g

  callee : (d g h : ℕ) (edge : Edge) → Contains (edges_of (states_at g)) edge →
      copied_by graphs words (suc d) edge ≡ Some h → IsCallee d g h
  callee d g h edge there is =
      let deeper = copied_deeper graphs words (suc d) (called edge.label) h is in
      let calls = called_is edge.label h deeper.2 in
      let of_state = contained_joined (λ (state : State). state.edges) (states_at g) edge there in
      let at = place_of (states_at g) of_state.0 of_state.1 in
      let known = (inside.edges g at.0 of_state.0 edge at.1 of_state.2).called in
      let range : (1 ≤ h) × (h ≤ length graphs) = subst (IsCalled (length graphs)) calls known in
      let wide : room graphs words (size_of d) (suc d) edge ≡ size_of d h =
      ap (size_if graphs words (size_of d)) is in
      let within = item_within (room graphs words (size_of d) (suc d)) (edges_of (states_at g)) edge there in
      record { from = range.0; to = range.1; fits = omega (arith, wide, within) }

  -- the sizes are told of what is copied in a copy that is to be made
  size_told : (d g h : ℕ) → d ≤ depth → IsCallee d g h → size_of (suc d) g < MANY →
      sizes_below source (suc d) h ≡ size_of d h
  size_told d g h deep c few =
      let row : size_at (get_or source.sizes.items (suc d - 1) []) h ≡ capped (size_of d h) =
      subst (λ k. size_at (get_or source.sizes.items k []) h ≡ capped (size_of d h)) (omega arith)
      (sizes.row d deep h c.from c.to) in
      row ∙ small_capped (size_of d h) (omega (arith, c.fits, few))

  rooms_same : (d g : ℕ) → d ≤ depth → size_of d g < MANY → (edge : Edge) →
      Contains (edges_of (states_at g)) edge →
      room graphs words (sizes_below source d) d edge
      ≡ room graphs words (told.sizes_below graphs words d) d edge
  rooms_same zero g deep few edge there = refl
  rooms_same (suc d) g deep few edge there =
      by_callee (copied_by graphs words (suc d) edge) refl
    where
      by_callee : (calls : Option ℕ) → copied_by graphs words (suc d) edge ≡ calls →
          size_if graphs words (sizes_below source (suc d)) calls
          ≡ size_if graphs words (size_of d) calls
      by_callee None is = refl
      by_callee (Some h) is =
          size_told d g h (omega (arith, deep)) (callee d g h edge there is) few

  -- the copies in place of edges, as they are to be made and as they stand
  below_is : (d k h next : ℕ) (back : Option ℕ) → d ≡ suc k →
      copy graphs words (d - 1) h next back ≡ copy_below graphs words d h next back
  below_is d k h next back e =
      subst (λ d. copy graphs words (d - 1) h next back ≡ copy_below graphs words d h next back) (sym e)
      (ap (λ m. copy graphs words m h next back) (let same : suc k - 1 ≡ k = omega arith in same))

  inner_joined : (xs ys : List Pending) →
      states_inner source (xs ++ ys) ≡ states_inner source xs ++ states_inner source ys
  inner_joined [] ys = refl
  inner_joined (x ∷ xs) ys =
      let own = copy graphs words x.depth x.graph x.first x.back in
      ap (λ l. own ++ l) (inner_joined xs ys)
      ∙ sym (append_assoc own (states_inner source xs) (states_inner source ys))

  module _ (made : Pending) where
    abbrev below_sizes : ℕ → ℕ
    below_sizes = told.sizes_below graphs words made.depth

    abbrev AreSameRooms : List Edge → Type 0
    AreSameRooms edges = (edge : Edge) → Contains edges edge →
        room_in source made edge ≡ room graphs words below_sizes made.depth edge

    abbrev copies_at : (next : ℕ) → List Edge → List State
    copies_at next edges = copies graphs words below_sizes made.depth made.first made.back
        (copy_below graphs words made.depth) next edges

    abbrev copy_at : Option ℕ → (next : ℕ) → Edge → List State
    copy_at calls next edge = copy_if graphs words below_sizes made.depth made.first made.back
        (copy_below graphs words made.depth) calls next edge

    one_same : (next : ℕ) (edge : Edge) (calls : Option ℕ) →
        copied_by graphs words made.depth edge ≡ calls →
        states_inner source (pending_if source made calls next edge) ≡ copy_at calls next edge
    one_same next edge None is = refl
    one_same next edge (Some h) is =
        let deeper = copied_deeper graphs words made.depth (called edge.label) h is in
        let back = Some (made.first + edge.target) in
        append-nil (copy graphs words (made.depth - 1) h next back)
        ∙ below_is made.depth deeper.0 h next back deeper.1

    inner_same : (next : ℕ) (edges : List Edge) → AreSameRooms edges →
        states_inner source (pending_in source made next edges) ≡ copies_at next edges
    inner_same next [] same = refl
    inner_same next (edge ∷ edges) same =
        let calls = copied_by graphs words made.depth edge in
        let some = pending_if source made calls next edge in
        let n = next + room_in source made edge in
        let rest = pending_in source made n edges in
        let later : AreSameRooms edges =
        λ (e : Edge) (there : Contains edges e). same e (contains_later edge edges e there) in
        inner_joined some rest
        ∙ ap (λ l. l ++ states_inner source rest) (one_same next edge calls refl)
        ∙ ap (λ l. copy_at calls next edge ++ l) (inner_same n edges later
        ∙ ap (λ m. copies_at (next + m) edges) (same edge (contains_first edge edges)))

    abbrev own_states : List State
    own_states = states_at made.graph

    abbrev behind_own : ℕ
    behind_own = made.first + length own_states

    abbrev inner : List Pending
    inner = pending_in source made behind_own (edges_of own_states)

    -- a copy that is to be made
    made_copy : IsToMake source depth made →
        copy graphs words made.depth made.graph made.first made.back
        ≡ states_in source made behind_own own_states ++ states_inner source inner
    made_copy is =
        let same = rooms_same made.depth made.graph is.deep is.few in
        copy_is graphs words made.depth made.graph made.first made.back
        ∙ ap (λ l. l ++ copies_at behind_own (edges_of own_states))
        (sym (states_same graphs words (sizes_below source made.depth) below_sizes made.depth
        made.first made.back own_states behind_own same))
        ∙ ap (λ l. states_in source made behind_own own_states ++ l)
        (sym (inner_same behind_own (edges_of own_states) same))

    -- the copies in place of its calls are to be made too
    pub record OfEdge (edges : List Edge) (q : Pending) : Type 0 where
      pub edge : Edge
      pub there : Contains edges edge
      pub h : ℕ
      pub is : copied_by graphs words made.depth edge ≡ Some h
      pub deeper : q.depth ≡ made.depth - 1
      pub of_graph : q.graph ≡ h

    of_one : (next : ℕ) (edge : Edge) (edges : List Edge) (q : Pending) (calls : Option ℕ) →
        copied_by graphs words made.depth edge ≡ calls →
        Contains (pending_if source made calls next edge) q → OfEdge (edge ∷ edges) q
    of_one next edge edges q None is there = absurd (nothing_in there)
    of_one next edge edges q (Some h) is there =
        let own : Pending = record {
          graph = h;
          depth = made.depth - 1;
          first = next;
          back = Some (made.first + edge.target);
        } in
        elim (first_or_later own [] q there) [
          | inl e ↦ record {
            edge = edge;
            there = contains_first edge edges;
            h = h;
            is = is;
            deeper = ap (λ (p : Pending). p.depth) (sym e);
            of_graph = ap (λ (p : Pending). p.graph) (sym e);
          }
          | inr later ↦ absurd (nothing_in later)
        ]

    of_edges : (next : ℕ) (edges : List Edge) (q : Pending) →
        Contains (pending_in source made next edges) q → OfEdge edges q
    of_edges next [] q there = absurd (nothing_in there)
    of_edges next (edge ∷ edges) q there =
        let calls = copied_by graphs words made.depth edge in
        let n = next + room_in source made edge in
        elim (Contains-append_cases (pending_if source made calls next edge)
        (pending_in source made n edges) q there) [
          | inl one ↦ of_one next edge edges q calls refl one
          | inr later ↦
              let it = of_edges n edges q later in
              record {
                edge = it.edge;
                there = contains_later edge edges it.edge it.there;
                h = it.h;
                is = it.is;
                deeper = it.deeper;
                of_graph = it.of_graph;
              }
        ]

    inner_to_make : IsToMake source depth made → (q : Pending) → Contains inner q →
        IsToMake source depth q
    inner_to_make is q there =
        let it = of_edges behind_own (edges_of own_states) q there in
        let deeper = copied_deeper graphs words made.depth (called it.edge.label) it.h it.is in
        let c = callee deeper.0 made.graph it.h it.edge it.there
        (subst (λ d. copied_by graphs words d it.edge ≡ Some it.h) deeper.1 it.is) in
        let at : q.depth ≡ deeper.0 = omega (arith, it.deeper, deeper.1) in
        let above : size_of (suc deeper.0) made.graph < MANY =
        subst (λ d. size_of d made.graph < MANY) deeper.1 is.few in
        let few : size_of deeper.0 it.h < MANY = omega (arith, c.fits, above) in
        record {
          deep = omega (arith, at, deeper.1, is.deep);
          from = subst (λ h. 1 ≤ h) (sym it.of_graph) c.from;
          to = subst (λ h. h ≤ length graphs) (sym it.of_graph) c.to;
          few = subst (λ h. size_of q.depth h < MANY) (sym it.of_graph)
              (subst (λ d. size_of d it.h < MANY) (sym at) few);
        }

    -- it has a state
    some_state : IsToMake source depth made → 0 < length own_states
    some_state is = by_number made.graph is.from is.to
      where
        by_number : (g : ℕ) → 1 ≤ g → g ≤ length graphs → 0 < length (states_at g)
        by_number zero from to = absurd (omega (arith, from))
        by_number (suc n) from to =
            let found = get_some graphs n (omega (arith, to)) in
            subst (λ (g : Option StateGraph). 0 < length (told_in g)) (sym found.1)
            (inside.start (suc n) found.0 found.1)

    -- one copy from the stack is made
    pub copy_step : (states now whole : List State) (rest new : List Pending) →
        IsToMake source depth made →
        states ++ states_left source (rest ++ made ∷ []) ≡ whole →
        now ≡ states ++ states_in source made behind_own own_states →
        new ≡ rest ++ reverse inner → now ++ states_left source new ≡ whole
    copy_step states now whole rest new is so_far grown stacked =
        let own = states_in source made behind_own own_states in
        let left = states_left source rest in
        let top : states_left source (rest ++ made ∷ []) ≡ (own ++ states_inner source inner) ++ left =
        left_joined source rest (made ∷ []) ∙ ap (λ l. l ++ left) (made_copy is) in
        let under : states_left source new ≡ states_inner source inner ++ left =
        ap (states_left source) stacked ∙ (left_joined source rest (reverse inner)
        ∙ ap (λ l. l ++ left) (left_reverse source inner)) in
        ap (λ l. l ++ states_left source new) grown
        ∙ (append_assoc states own (states_left source new)
        ∙ (ap (λ l. states ++ (own ++ l)) under
        ∙ (ap (λ l. states ++ l) (sym (append_assoc own (states_inner source inner) left))
        ∙ (ap (λ l. states ++ l) (sym top) ∙ so_far))))

    pub left_falls : (rest new : List Pending) → IsToMake source depth made →
        new ≡ rest ++ reverse inner →
        length (states_left source new) < length (states_left source (rest ++ made ∷ []))
    left_falls rest new is stacked =
        let own = states_in source made behind_own own_states in
        let left = states_left source rest in
        let top : length (states_left source (rest ++ made ∷ []))
        ≡ length ((own ++ states_inner source inner) ++ left) =
        ap length (left_joined source rest (made ∷ []) ∙ ap (λ l. l ++ left) (made_copy is)) in
        let under : length (states_left source new) ≡ length (states_inner source inner ++ left) =
        ap length (ap (states_left source) stacked ∙ (left_joined source rest (reverse inner)
        ∙ ap (λ l. l ++ left) (left_reverse source inner))) in
        omega (
          arith,
          top,
          under,
          length-append (own ++ states_inner source inner) left,
          length-append own (states_inner source inner),
          length-append (states_inner source inner) left,
          told.length_states graphs words (sizes_below source made.depth) made.depth made.first made.back
              behind_own own_states,
          some_state is,
        )

    -- what is on the stack then is to be made
    pub stack_to_make : (rest new : List Pending) → IsToMake source depth made →
        ((q : Pending) → Contains rest q → IsToMake source depth q) → new ≡ rest ++ reverse inner →
        (q : Pending) → Contains new q → IsToMake source depth q
    stack_to_make rest new is those stacked q there =
        elim (Contains-append_cases rest (reverse inner) q
        (subst (λ l. Contains l q) stacked there)) [
          | inl before ↦ those q before
          | inr top ↦ inner_to_make is q (contains_reversed inner q top)
        ]

-- the main graph's copy is to be made
pub root_to_make : (source : Source) (depth : ℕ) → 1 ≤ length source.graphs.items →
    size source.graphs.items (has_word source) depth 1 < MANY → (made : Pending) →
    Contains (record { graph = 1; depth = depth; first = 0; back = None } ∷ []) made →
    IsToMake source depth made
root_to_make source depth some few made there =
    let root : Pending = record { graph = 1; depth = depth; first = 0; back = None } in
    elim (first_or_later root [] made there) [
      | inl same ↦ subst (IsToMake source depth) same
          (record { deep = omega arith; from = omega arith; to = some; few = few })
      | inr later ↦ absurd (nothing_in later)
    ]
