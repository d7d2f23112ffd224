-- The states of a copy and of the copies in place of its calls: how many there are, and where each
-- stands.
use Rattle.std.proofs.Common.{arith, ◌≡◌, ℕ, zero, suc, ◌+◌, inl, inr, List, [], ◌∷◌, ◌++◌, Some, refl, sym, subst, ◌∙◌, ap, append-nil, sum_by, slice_get, length, length-append, Bool, true, false, cond}
use Rattle.std.specs.Prelude.{Option, None, Contains}
use Rattle.std.proofs.lemmas.List.Sums.{sum_by-cons}
use Rattle.ux_base.proofs.Lists.{nothing_in, first_or_later, contains_first, contains_later}
use Rattle.ux_net.specs.declared.state.Edge.{Edge}
use Rattle.ux_net.specs.declared.state.State.{State}
use Rattle.ux_net.specs.declared.state_graph.StateGraph.{StateGraph}
use Rattle.ux_net.specs.StateGraphs.{told_states}
use Rattle.ux_flatten.specs.Copies.{edges_of, copied, copied_by, size_if, room, size, copy_edge, copy_edges, copy_state, copy_states, copy_if, copies, copy}
use Rattle.ux_flatten.proofs.EdgePlaces.{At, here, there, next_at}
use Rattle.ux_flatten.proofs.Segments.{Segment, segment_left, segment_right}

module _ (graphs : List StateGraph) (has_word : ℕ → Bool) where
  abbrev states_at : ℕ → List State
  states_at g = told_states graphs g

  -- the sizes of copies one depth below, and the copies
  abbrev pub sizes_below : (depth : ℕ) → ℕ → ℕ
  sizes_below zero = λ h. 0
  sizes_below (suc d) = size graphs has_word d

  abbrev pub copy_below : (depth : ℕ) → (h next : ℕ) → Option ℕ → List State
  copy_below zero = λ h next back. []
  copy_below (suc d) = copy graphs has_word d

  -- how many states stand in place of an edge in a copy at the depth
  abbrev pub room_at : (depth : ℕ) → Edge → ℕ
  room_at depth = room graphs has_word (sizes_below depth) depth

  -- where what stands in place of a copy's edges begins
  abbrev pub behind : (g first : ℕ) → ℕ
  behind g first = first + length (states_at g)

  no_room : (sizes : ℕ → ℕ) (edges : List Edge) →
      sum_by (room graphs has_word sizes zero) edges ≡ 0
  no_room sizes [] = refl
  no_room sizes (edge ∷ edges) =
      omega (arith, sum_by-cons (room graphs has_word sizes zero) edge edges, no_room sizes edges)

  no_copies : (sizes : ℕ → ℕ) (first : ℕ) (back : Option ℕ)
      (sub : (h next : ℕ) → Option ℕ → List State) (next : ℕ) (edges : List Edge) →
      copies graphs has_word sizes zero first back sub next edges ≡ []
  no_copies sizes first back sub next [] = refl
  no_copies sizes first back sub next (edge ∷ edges) =
      no_copies sizes first back sub (next + room graphs has_word sizes zero edge) edges

  pub size_is : (depth g : ℕ) →
      size graphs has_word depth g
      ≡ length (states_at g) + sum_by (room_at depth) (edges_of (states_at g))
  size_is zero g = omega (arith, no_room (sizes_below zero) (edges_of (states_at g)))
  size_is (suc d) g = refl

  pub copy_is : (depth g first : ℕ) (back : Option ℕ) →
      copy graphs has_word depth g first back
      ≡ copy_states graphs has_word (sizes_below depth) depth first back (behind g first)
      (states_at g)
      ++ copies graphs has_word (sizes_below depth) depth first back (copy_below depth)
      (behind g first) (edges_of (states_at g))
  copy_is zero g first back =
      let own =
      copy_states graphs has_word (sizes_below zero) zero first back (behind g first)
      (states_at g) in
      sym (append-nil own)
      ∙ ap (λ (l : List State). own ++ l)
      (sym (no_copies (sizes_below zero) first back (copy_below zero) (behind g first)
      (edges_of (states_at g))))
  copy_is (suc d) g first back = refl

  -- what is copied is copied one depth below
  pub copied_deeper : (depth : ℕ) (calls : Option ℕ) (h : ℕ) →
      copied graphs has_word depth calls ≡ Some h →
      (d : ℕ) × (depth ≡ suc d) × (calls ≡ Some h) × (has_word h ≡ true)
  copied_deeper zero calls h is = let none : None ≡ Some h = is in cc
  copied_deeper (suc d) None h is = let none : None ≡ Some h = is in cc
  copied_deeper (suc d) (Some k) h is = by_word (has_word k) refl is
    where
      by_word : (b : Bool) → has_word k ≡ b → cond b (Some k) None ≡ Some h →
          (e : ℕ) × (suc d ≡ suc e) × (Some k ≡ Some h) × (has_word h ≡ true)
      by_word true e is =
          let same : k ≡ h = cc in
          (d, refl, is, subst (λ n. has_word n ≡ true) same e)
      by_word false e is = let none : None ≡ Some h = is in cc

  -- and what isn't is at depth 0, or has no word, or is no call
  pub uncopied : (d h : ℕ) → copied graphs has_word (suc d) (Some h) ≡ None → has_word h ≡ true → ⊥
  uncopied d h is word =
      let some : Some h ≡ None = sym (ap (λ (b : Bool). cond b (Some h) None) word) ∙ is in
      cc

  -- how long the lists are
  pub length_states : (sizes : ℕ → ℕ) (depth first : ℕ) (back : Option ℕ) (next : ℕ)
      (states : List State) →
      length (copy_states graphs has_word sizes depth first back next states) ≡ length states
  length_states sizes depth first back next [] = refl
  length_states sizes depth first back next (state ∷ states) =
      ap suc (length_states sizes depth first back
      (next + sum_by (room graphs has_word sizes depth) state.edges) states)

  -- the copies have these sizes
  abbrev Sized : (sizes : ℕ → ℕ) → (sub : (h next : ℕ) → Option ℕ → List State) → Type 0
  Sized sizes sub = (h next : ℕ) (back : Option ℕ) → length (sub h next back) ≡ sizes h

  length_if : (sizes : ℕ → ℕ) (depth first : ℕ) (back : Option ℕ)
      (sub : (h next : ℕ) → Option ℕ → List State) → Sized sizes sub → (calls : Option ℕ)
      (next : ℕ) (edge : Edge) →
      length (copy_if graphs has_word sizes depth first back sub calls next edge)
      ≡ size_if graphs has_word sizes calls
  length_if sizes depth first back sub sized None next edge = refl
  length_if sizes depth first back sub sized (Some h) next edge =
      sized h next (Some (first + edge.target))

  length_copies : (sizes : ℕ → ℕ) (depth first : ℕ) (back : Option ℕ)
      (sub : (h next : ℕ) → Option ℕ → List State) → Sized sizes sub → (next : ℕ)
      (edges : List Edge) →
      length (copies graphs has_word sizes depth first back sub next edges)
      ≡ sum_by (room graphs has_word sizes depth) edges
  length_copies sizes depth first back sub sized next [] = refl
  length_copies sizes depth first back sub sized next (edge ∷ edges) =
      let here_if =
      copy_if graphs has_word sizes depth first back sub (copied_by graphs has_word depth edge) next
      edge in
      let rest =
      copies graphs has_word sizes depth first back sub
      (next + room graphs has_word sizes depth edge) edges in
      omega (
        arith,
        length-append here_if rest,
        length_if sizes depth first back sub sized (copied_by graphs has_word depth edge) next edge,
        length_copies sizes depth first back sub sized
            (next + room graphs has_word sizes depth edge) edges,
        sum_by-cons (room graphs has_word sizes depth) edge edges,
      )

  pub length_copy : (depth g first : ℕ) (back : Option ℕ) →
      length (copy graphs has_word depth g first back) ≡ size graphs has_word depth g
  length_copy zero g first back =
      length_states (sizes_below zero) zero first back (behind g first) (states_at g)
  length_copy (suc d) g first back =
      let own =
      copy_states graphs has_word (size graphs has_word d) (suc d) first back (behind g first)
      (states_at g) in
      let rest =
      copies graphs has_word (size graphs has_word d) (suc d) first back (copy graphs has_word d)
      (behind g first) (edges_of (states_at g)) in
      omega (
        arith,
        length-append own rest,
        length_states (size graphs has_word d) (suc d) first back (behind g first) (states_at g),
        length_copies (size graphs has_word d) (suc d) first back (copy graphs has_word d)
            (λ h next back. length_copy d h next back) (behind g first) (edges_of (states_at g)),
      )

  -- the states of a copy by number
  pub state_there : (sizes : ℕ → ℕ) (depth first : ℕ) (back : Option ℕ) (next : ℕ)
      (states : List State) (a : ℕ) (state : State) → slice_get states a ≡ Some state →
      slice_get (copy_states graphs has_word sizes depth first back next states) a
      ≡ Some (copy_state graphs has_word sizes depth first back
      (next_at (room graphs has_word sizes depth) next states a) state)
  state_there sizes depth first back next [] a state found =
      let none : None ≡ Some state = found in
      cc
  state_there sizes depth first back next (one ∷ states) zero state found =
      let same : one ≡ state = cc in
      ap (λ (s : State). Some (copy_state graphs has_word sizes depth first back next s)) same
  state_there sizes depth first back next (one ∷ states) (suc a) state found =
      state_there sizes depth first back
      (next + sum_by (room graphs has_word sizes depth) one.edges) states a state found

  -- the edges of a copy
  pub edge_there : (sizes : ℕ → ℕ) (depth first : ℕ) (back : Option ℕ) {next m : ℕ}
      {edges : List Edge} {edge : Edge} → At (room graphs has_word sizes depth) next edges edge m →
      Contains (copy_edges graphs has_word sizes depth first back next edges)
      (copy_edge graphs has_word sizes depth first back (copied_by graphs has_word depth edge) m
      edge)
  edge_there sizes depth first back {next = next} (here {edge = edge} {edges = edges}) =
      contains_first
      (copy_edge graphs has_word sizes depth first back (copied_by graphs has_word depth edge) next
      edge)
      (copy_edges graphs has_word sizes depth first back
      (next + room graphs has_word sizes depth edge) edges)
  edge_there sizes depth first back {next = next} {m = m}
      (there {other = other} {edge = edge} {edges = edges} at) =
      contains_later
      (copy_edge graphs has_word sizes depth first back (copied_by graphs has_word depth other) next
      other)
      (copy_edges graphs has_word sizes depth first back
      (next + room graphs has_word sizes depth other) edges)
      (copy_edge graphs has_word sizes depth first back (copied_by graphs has_word depth edge) m
      edge)
      (edge_there sizes depth first back at)

  -- an edge of a copy is that of an edge
  pub record OfEdge (sizes : ℕ → ℕ) (depth first : ℕ) (back : Option ℕ) (next : ℕ)
      (edges : List Edge) (x : Edge) : Type 0 where
    pub edge : Edge
    pub m : ℕ
    pub at : At (room graphs has_word sizes depth) next edges edge m
    pub is : copy_edge graphs has_word sizes depth first back (copied_by graphs has_word depth edge)
        m edge ≡ x

  pub of_edge : (sizes : ℕ → ℕ) (depth first : ℕ) (back : Option ℕ) (next : ℕ)
      (edges : List Edge) (x : Edge) →
      Contains (copy_edges graphs has_word sizes depth first back next edges) x →
      OfEdge sizes depth first back next edges x
  of_edge sizes depth first back next [] x within = absurd (nothing_in within)
  of_edge sizes depth first back next (edge ∷ edges) x within =
      let one =
      copy_edge graphs has_word sizes depth first back (copied_by graphs has_word depth edge) next
      edge in
      let n = next + room graphs has_word sizes depth edge in
      let rest = copy_edges graphs has_word sizes depth first back n edges in
      elim (first_or_later one rest x within) [
        | inl same ↦ record { edge = edge; m = next; at = here; is = same }
        | inr later ↦
            let it = of_edge sizes depth first back n edges x later in
            record { edge = it.edge; m = it.m; at = there it.at; is = it.is }
      ]

  -- the copy in place of an edge stands where it begins
  pub copy_there : (all : List State) (sizes : ℕ → ℕ) (depth first : ℕ) (back : Option ℕ)
      (sub : (h next : ℕ) → Option ℕ → List State) → Sized sizes sub → {next m : ℕ}
      {edges : List Edge} {edge : Edge} → At (room graphs has_word sizes depth) next edges edge m →
      (h : ℕ) → copied_by graphs has_word depth edge ≡ Some h →
      Segment all next (copies graphs has_word sizes depth first back sub next edges) →
      Segment all m (sub h m (Some (first + edge.target)))
  copy_there all sizes depth first back sub sized {next = next}
      (here {edge = edge} {edges = edges}) h is s =
      subst (λ (calls : Option ℕ).
      Segment all next (copy_if graphs has_word sizes depth first back sub calls next edge)) is
      (segment_left all next
      (copy_if graphs has_word sizes depth first back sub (copied_by graphs has_word depth edge)
      next
      edge)
      (copies graphs has_word sizes depth first back sub
      (next + room graphs has_word sizes depth edge) edges) s)
  copy_there all sizes depth first back sub sized {next = next}
      (there {other = other} {edges = edges} at) h is s =
      let before =
      copy_if graphs has_word sizes depth first back sub (copied_by graphs has_word depth other)
      next
      other in
      let rest =
      copies graphs has_word sizes depth first back sub
      (next + room graphs has_word sizes depth other) edges in
      copy_there all sizes depth first back sub sized at h is
      (subst (λ n. Segment all (next + n) rest)
      (length_if sizes depth first back sub sized (copied_by graphs has_word depth other) next
      other)
      (segment_right all next before rest s))
