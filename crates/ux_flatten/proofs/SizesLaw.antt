-- The sizes that the rows tell, row by row.
use Rattle.std.proofs.Common.{arith, ◌≡◌, ℕ, zero, suc, ◌+◌, ◌<◌, ◌≤◌, inl, inr, List, [], ◌∷◌, ◌++◌, Some, refl, sym, subst, ap, ◌∙◌, length, get_or, map, take, sum_by, slice_get, Bool, true, false, cond, ltb}
use Rattle.std.specs.Prelude.{Option, None, Contains}
use Rattle.std.proofs.lemmas.Bool.{ltb-true}
use Rattle.std.proofs.lemmas.List.{get_or_append_left, get_or_push, length_push, take_all, take_more}
use Rattle.std.proofs.lemmas.List.Sums.{sum_by-cons, sum_by-append}
use Rattle.ux_base.proofs.JoinedLists.{contained_joined}
use Rattle.ux_base.proofs.Lists.{contains_first, contains_later, less_or}
use Rattle.ux_base.proofs.OrderedLists.{place_of}
use Rattle.ux_net.specs.declared.state.Edge.{Edge}
use Rattle.ux_net.specs.declared.state.State.{State}
use Rattle.ux_net.specs.declared.state_graph.StateGraph.{StateGraph}
use Rattle.ux_net.specs.Nets.{IsCalled}
use Rattle.ux_net.specs.StateGraphs.{AreInsideStates, told_in, told_states}
use Rattle.ux_flatten.specs.Copies.{called, copied, edges_of, room, size, size_if}
use Rattle.ux_flatten.specs.Making.{capped, callee_size, own_size, size_at, size_called, size_from, IsSizeRow, MANY}
use Rattle.ux_flatten.proofs.MakingLaw.{called_is, small_capped}

-- Numbers that are told as far as the cap.
pub large_capped : (n : ℕ) → MANY ≤ n → capped n ≡ MANY
large_capped n le = ap (λ (b : Bool). cond b n MANY) (not_below (ltb n MANY) refl)
  where
    not_below : (b : Bool) → ltb n MANY ≡ b → ltb n MANY ≡ false
    not_below true e = absurd (omega (arith, le, ltb-true n MANY e))
    not_below false e = e

pub capped_part : (n x : ℕ) → capped (n + capped x) ≡ capped (n + x)
capped_part n x = elim (less_or x MANY) [
  | inl lt ↦ ap (λ m. capped (n + m)) (small_capped x lt)
  | inr le ↦
      ap (λ m. capped (n + m)) (large_capped x le)
      ∙ (large_capped (n + MANY) (omega arith) ∙ sym (large_capped (n + x) (omega (arith, le))))
]

pub capped_front : (n x : ℕ) → capped (capped n + x) ≡ capped (n + x)
capped_front n x =
    let swapped : capped n + x ≡ x + capped n = omega arith in
    let back : x + n ≡ n + x = omega arith in
    ap capped swapped ∙ (capped_part x n ∙ ap capped back)

-- a number that isn't above the cap is told whole
pub capped_whole : (n : ℕ) → n ≤ MANY → n ≡ capped n
capped_whole n le = elim (less_or n MANY) [
  | inl lt ↦ sym (small_capped n lt)
  | inr more ↦ (let same : n ≡ MANY = omega (arith, le, more) in same ∙ sym (large_capped n more))
]

pub capped_few : (n : ℕ) → capped n ≤ MANY
capped_few n = elim (less_or n MANY) [
  | inl lt ↦ (let same = small_capped n lt in omega (arith, lt, same))
  | inr le ↦ (let same = large_capped n le in omega (arith, same))
]

-- the sum of a list's front
pub sum_next : {A : Type 0} (f : A → ℕ) (xs : List A) (i : ℕ) (x : A) → i < length xs →
    x ≡ get_or xs i x → sum_by f (take (i + 1) xs) ≡ sum_by f (take i xs) + f x
sum_next f xs i x lt at =
    let front : take (i + 1) xs ≡ take i xs ++ x ∷ [] =
    take_more xs i x lt ∙ ap (λ y. take i xs ++ y ∷ []) (sym at) in
    let one : sum_by f (x ∷ []) ≡ f x = omega (arith, sum_by-cons f x []) in
    ap (sum_by f) front ∙ (sum_by-append f (take i xs) (x ∷ []) ∙ ap (λ n. sum_by f (take i xs) + n) one)

-- the sum over the edges of states, state by state
pub edges_sum : (f : Edge → ℕ) (states : List State) →
    sum_by f (edges_of states) ≡ sum_by (λ (state : State). sum_by f state.edges) states
edges_sum f [] = refl
edges_sum f (state ∷ states) =
    omega (
      arith,
      sum_by-append f state.edges (edges_of states),
      sum_by-cons (λ (state : State). sum_by f state.edges) state states,
      edges_sum f states,
    )

-- a size with one edge more, or with the edges of one state more
pub size_more : {A : Type 0} (f : A → ℕ) (first size now : ℕ) (xs : List A) (i : ℕ) (x : A) →
    i < length xs → x ≡ get_or xs i x → size ≡ capped (first + sum_by f (take i xs)) →
    now ≡ capped (size + f x) → now ≡ capped (first + sum_by f (take (i + 1) xs))
size_more f first size now xs i x lt at so_far is =
    let before = first + sum_by f (take i xs) in
    let whole : before + f x ≡ first + sum_by f (take (i + 1) xs) =
    omega (arith, sum_next f xs i x lt at) in
    is ∙ (ap (λ n. capped (n + f x)) so_far ∙ (capped_front before (f x) ∙ ap capped whole))

-- what a row has for a graph, by its states
row_of_states : (f : List State → ℕ) (graphs : List StateGraph) (n : ℕ) → n < length graphs →
    get_or (map (λ (graph : StateGraph). f graph.states) graphs) n 0
    ≡ f (told_in (slice_get graphs n))
row_of_states f [] n lt = absurd (omega (arith, lt))
row_of_states f (graph ∷ graphs) zero lt = refl
row_of_states f (graph ∷ graphs) (suc n) lt = row_of_states f graphs n (omega (arith, lt))

pub own_row : (graphs : List StateGraph) (has_word : ℕ → Bool) →
    IsSizeRow graphs has_word 0 (map own_size graphs)
own_row graphs has_word zero from to = absurd (omega (arith, from))
own_row graphs has_word (suc n) from to =
    row_of_states (λ (states : List State). capped (length states)) graphs n (omega (arith, to))

module _ (graphs : List StateGraph) (has_word : ℕ → Bool) (inside : AreInsideStates graphs)
    (d : ℕ) (below : List ℕ) (row : IsSizeRow graphs has_word d below) where
  abbrev room_of : Edge → ℕ
  room_of = room graphs has_word (size graphs has_word d) (suc d)

  abbrev told_of : Edge → ℕ
  told_of = callee_size has_word (size_at below)

  told_room : (g : ℕ) (edge : Edge) → Contains (edges_of (told_states graphs g)) edge →
      told_of edge ≡ capped (room_of edge)
  told_room g edge there = by_label (called edge.label) refl
    where
      by_word : (h : ℕ) → called edge.label ≡ Some h → (b : Bool) → has_word h ≡ b →
          cond b (size_at below h) 0
          ≡ capped (size_if graphs has_word (size graphs has_word d) (cond b (Some h) None))
      by_word h is true e =
          let calls = called_is edge.label h is in
          let of_state = contained_joined (λ (state : State). state.edges) (told_states graphs g) edge there in
          let at = place_of (told_states graphs g) of_state.0 of_state.1 in
          let known = (inside.edges g at.0 of_state.0 edge at.1 of_state.2).called in
          let range : (1 ≤ h) × (h ≤ length graphs) = subst (IsCalled (length graphs)) calls known in
          row h range.0 range.1
      by_word h is false e = sym (small_capped 0 (omega arith))

      by_label : (calls : Option ℕ) → called edge.label ≡ calls →
          size_called has_word (size_at below) calls
          ≡ capped (size_if graphs has_word (size graphs has_word d)
          (copied graphs has_word (suc d) calls))
      by_label None is = sym (small_capped 0 (omega arith))
      by_label (Some h) is = by_word h is (has_word h) refl

  sums_capped : (n : ℕ) (edges : List Edge) →
      ((edge : Edge) → Contains edges edge → told_of edge ≡ capped (room_of edge)) →
      capped (n + sum_by told_of edges) ≡ capped (n + sum_by room_of edges)
  sums_capped n [] same = refl
  sums_capped n (edge ∷ edges) same =
      let told : n + sum_by told_of (edge ∷ edges) ≡ n + told_of edge + sum_by told_of edges =
      omega (arith, sum_by-cons told_of edge edges) in
      let rooms = sum_by room_of edges in
      let turned : n + told_of edge + rooms ≡ n + rooms + capped (room_of edge) =
      omega (arith, same edge (contains_first edge edges)) in
      let whole : n + rooms + room_of edge ≡ n + sum_by room_of (edge ∷ edges) =
      omega (arith, sum_by-cons room_of edge edges) in
      ap capped told
      ∙ (sums_capped (n + told_of edge) edges (λ e there. same e (contains_later edge edges e there))
      ∙ (ap capped turned ∙ (capped_part (n + rooms) (room_of edge) ∙ ap capped whole)))

  pub row_above : IsSizeRow graphs has_word (suc d)
      (map (size_from has_word (size_at below)) graphs)
  row_above zero from to = absurd (omega (arith, from))
  row_above (suc n) from to =
      let states = told_states graphs (suc n) in
      row_of_states (λ (states : List State). capped (length states + sum_by told_of (edges_of states)))
      graphs n (omega (arith, to))
      ∙ sums_capped (length states) (edges_of states) (told_room (suc n))

-- one row more
pub rows_more : (graphs : List StateGraph) (has_word : ℕ → Bool) (rows now : List (List ℕ))
    (row : List ℕ) → now ≡ rows ++ row ∷ [] →
    ((d : ℕ) → d < length rows → IsSizeRow graphs has_word d (get_or rows d [])) →
    IsSizeRow graphs has_word (length rows) row →
    (d : ℕ) → d < length now → IsSizeRow graphs has_word d (get_or now d [])
rows_more graphs has_word rows now row grown before last d below = elim (less_or d (length rows)) [
  | inl lt ↦ subst (IsSizeRow graphs has_word d)
      (sym (ap (λ (l : List (List ℕ)). get_or l d []) grown ∙ get_or_append_left rows (row ∷ []) [] d lt))
      (before d lt)
  | inr le ↦
      let longer = ap length grown ∙ length_push rows row in
      let same : length rows ≡ d = omega (arith, longer, below, le) in
      subst (IsSizeRow graphs has_word d)
      (sym (ap (λ (l : List (List ℕ)). get_or l d []) grown ∙ get_or_push rows row [] d same))
      (subst (λ n. IsSizeRow graphs has_word n row) same last)
]

-- the size of a graph, state by state
pub size_whole : (has_word : ℕ → Bool) (sizes : ℕ → ℕ) (graph : StateGraph) (size i : ℕ) →
    length graph.states ≤ i → size ≡ capped (length graph.states
    + sum_by (λ (state : State). sum_by (callee_size has_word sizes) state.edges)
    (take i graph.states)) →
    size ≡ size_from has_word sizes graph
size_whole has_word sizes graph size i le is =
    let states = graph.states in
    let by_state = λ (state : State). sum_by (callee_size has_word sizes) state.edges in
    is ∙ (ap (λ (l : List State). capped (length states + sum_by by_state l)) (take_all i states le)
    ∙ ap (λ n. capped (length states + n)) (sym (edges_sum (callee_size has_word sizes) states)))
