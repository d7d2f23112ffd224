-- The copies of a flat graph: which there are, that each has its states there, and that each state
-- belongs to one of them.
use Rattle.std.proofs.Common.{arith, ◌≡◌, ℕ, zero, suc, ◌+◌, ◌-◌, ◌<◌, ◌≤◌, inl, inr, List, [], ◌∷◌, Some, refl, subst, ◌∙◌, ap, sum_by, slice_get, length, Bool, true, false, cond, ltb}
use Rattle.std.specs.Prelude.{Option, None}
use Rattle.std.proofs.lemmas.Bool.{lt-ltb, ltb-true}
use Rattle.std.proofs.lemmas.List.Sums.{sum_by-cons}
use Rattle.ux_base.proofs.Lists.{less_or}
use Rattle.ux_net.specs.declared.state.Edge.{Edge}
use Rattle.ux_net.specs.declared.state.State.{State}
use Rattle.ux_net.specs.declared.state_graph.StateGraph.{StateGraph}
use Rattle.ux_net.specs.StateGraphs.{told_states}
use Rattle.ux_flatten.specs.Copies.{edges_of, copied_by, size_if, room, size, copy_states, copies, copy, copy_state}
use Rattle.ux_flatten.proofs.EdgePlaces.{At, here, there, at_from, at_to, next_at, at_state, of_state}
use Rattle.ux_flatten.proofs.Segments.{Segment, segment_whole, segment_left, segment_right, segment_inside, segment_get}
use Rattle.ux_flatten.proofs.CopyStates.{sizes_below, copy_below, room_at, behind, size_is, copy_is, length_states, length_copy, state_there, copy_there}

-- the call for which a copy is made: the first state of the caller's copy, and the state to which the
-- call leads, as the caller's graph numbers it
pub record Call : Type 0 where
  pub caller : ℕ
  pub target : ℕ

-- the state of the flat graph to which it leads
abbrev pub back_of : Option Call → Option ℕ
back_of None = None
back_of (Some call) = Some (call.caller + call.target)

-- the copy in which a state stands
pub record Spot : Type 0 where
  pub first : ℕ
  pub graph : ℕ
  pub depth : ℕ
  pub call : Option Call

module _ (graphs : List StateGraph) (has_word : ℕ → Bool) (depth : ℕ) where
  abbrev states_at : ℕ → List State
  states_at g = told_states graphs g

  abbrev count : ℕ → ℕ
  count g = length (states_at g)

  abbrev pub flat : List State
  flat = copy graphs has_word depth 1 0 None

  -- where what stands in place of the edges of a state of a copy begins
  abbrev pub next_of : (d g first a : ℕ) → ℕ
  next_of d g first a =
      next_at (room_at graphs has_word d) (behind graphs has_word g first) (states_at g) a

  -- a copy of graph g at depth d has this first state, and was made for this call
  pub data IsPart : (d g first : ℕ) → Option Call → Type 0 where
    root : IsPart depth 1 0 None
    enter : {d g first h m : ℕ} {call : Option Call} (a : ℕ) (state : State) (edge : Edge) →
        IsPart (suc d) g first call → slice_get (states_at g) a ≡ Some state →
        At (room_at graphs has_word (suc d)) (next_of (suc d) g first a) state.edges edge m →
        copied_by graphs has_word (suc d) edge ≡ Some h →
        IsPart d h m (Some (record { caller = first; target = edge.target }))

  -- a copy has its states, and all copies in place of its calls, from its first state on
  pub part_there : {d g first : ℕ} {call : Option Call} → IsPart d g first call →
      Segment flat first (copy graphs has_word d g first (back_of call))
  part_there root = segment_whole flat
  part_there (enter {d = d} {g = g} {first = first} {h = h} {call = call} a state edge part found
      at is) =
      let s = part_there part in
      let sizes = size graphs has_word d in
      let own =
      copy_states graphs has_word sizes (suc d) first (back_of call)
      (behind graphs has_word g first)
      (states_at g) in
      let rest =
      copies graphs has_word sizes (suc d) first (back_of call) (copy graphs has_word d)
      (behind graphs has_word g first) (edges_of (states_at g)) in
      copy_there graphs has_word flat sizes (suc d) first (back_of call) (copy graphs has_word d)
      (λ h next back. length_copy graphs has_word d h next back)
      (at_state (room_at graphs has_word (suc d)) (behind graphs has_word g first) (states_at g) a
      state found at) h is
      (subst (λ n. Segment flat (first + n) rest)
      (length_states graphs has_word sizes (suc d) first (back_of call)
      (behind graphs has_word g first) (states_at g))
      (segment_right flat first own rest s))

  pub part_inside : {d g first : ℕ} {call : Option Call} → IsPart d g first call →
      first + size graphs has_word d g ≤ length flat
  part_inside {d = d} {g = g} {first = first} {call = call} part =
      omega (
        arith,
        segment_inside flat first (copy graphs has_word d g first (back_of call)) (part_there part),
        length_copy graphs has_word d g first (back_of call),
      )

  pub size_some : (d g : ℕ) → count g ≤ size graphs has_word d g
  size_some d g = omega (arith, size_is graphs has_word d g)

  -- a state of a copy, as it stands in the flat graph
  pub state_of_part : {d g first : ℕ} {call : Option Call} → IsPart d g first call → (a : ℕ)
      (state : State) → slice_get (states_at g) a ≡ Some state →
      slice_get flat (first + a)
      ≡ Some (copy_state graphs has_word (sizes_below graphs has_word d) d first (back_of call)
      (next_of d g first a) state)
  state_of_part {d = d} {g = g} {first = first} {call = call} part a state found =
      let own =
      copy_states graphs has_word (sizes_below graphs has_word d) d first (back_of call)
      (behind graphs has_word g first) (states_at g) in
      let rest =
      copies graphs has_word (sizes_below graphs has_word d) d first (back_of call)
      (copy_below graphs has_word d) (behind graphs has_word g first) (edges_of (states_at g)) in
      segment_get flat first own a
      (copy_state graphs has_word (sizes_below graphs has_word d) d first (back_of call)
      (next_of d g first a) state)
      (segment_left flat first own rest
      (subst (Segment flat first) (copy_is graphs has_word d g first (back_of call))
      (part_there part)))
      (state_there graphs has_word (sizes_below graphs has_word d) d first (back_of call)
      (behind graphs has_word g first) (states_at g) a state found)

  -- each state belongs to a copy
  pub record Found (x : ℕ) : Type 0 where
    pub d : ℕ
    pub g : ℕ
    pub first : ℕ
    pub call : Option Call
    pub a : ℕ
    pub part : IsPart d g first call
    pub inside : a < count g
    pub is : x ≡ first + a

  -- behind the states of a copy, a state is of the copy in place of one of its edges
  record Behind (sizes : ℕ → ℕ) (d next : ℕ) (edges : List Edge) (x : ℕ) : Type 0 where
    pub edge : Edge
    pub h : ℕ
    pub m : ℕ
    pub at : At (room graphs has_word sizes d) next edges edge m
    pub is : copied_by graphs has_word d edge ≡ Some h
    pub from : m ≤ x
    pub to : x < m + sizes h

  find_behind : (sizes : ℕ → ℕ) (d next : ℕ) (edges : List Edge) (x : ℕ) → next ≤ x →
      x < next + sum_by (room graphs has_word sizes d) edges → Behind sizes d next edges x
  find_behind sizes d next [] x from to = absurd (omega (arith, from, to))
  find_behind sizes d next (edge ∷ edges) x from to =
      let n = next + room graphs has_word sizes d edge in
      elim (less_or x n) [
        | inl lt ↦ first_of (copied_by graphs has_word d edge) refl lt
        | inr le ↦
            let it =
            find_behind sizes d n edges x le
            (omega (arith, to, sum_by-cons (room graphs has_word sizes d) edge edges)) in
            record {
              edge = it.edge;
              h = it.h;
              m = it.m;
              at = there it.at;
              is = it.is;
              from = it.from;
              to = it.to;
            }
      ]
    where
      first_of : (calls : Option ℕ) → copied_by graphs has_word d edge ≡ calls →
          x < next + size_if graphs has_word sizes calls → Behind sizes d next (edge ∷ edges) x
      first_of None e lt = absurd (omega (arith, from, lt))
      first_of (Some h) e lt =
          record { edge = edge; h = h; m = next; at = here; is = e; from = from; to = lt }

  pub find_in : (d : ℕ) {g first : ℕ} {call : Option Call} → IsPart d g first call → (x : ℕ) →
      first ≤ x → x < first + size graphs has_word d g → Found x
  find_in zero {g = g} {first = first} {call = call} part x from to = record {
    d = zero;
    g = g;
    first = first;
    call = call;
    a = x - first;
    part = part;
    inside = omega (arith, from, to);
    is = omega (arith, from);
  }
  find_in (suc d) {g = g} {first = first} {call = call} part x from to =
      elim (less_or x (behind graphs has_word g first)) [
        | inl lt ↦ record {
          d = suc d;
          g = g;
          first = first;
          call = call;
          a = x - first;
          part = part;
          inside = omega (arith, from, lt);
          is = omega (arith, from);
        }
        | inr le ↦
            let it =
            find_behind (size graphs has_word d) (suc d) (behind graphs has_word g first)
            (edges_of (states_at g)) x le (omega (arith, to)) in
            let s =
            of_state (room_at graphs has_word (suc d)) (behind graphs has_word g first)
            (states_at g) it.at in
            find_in d (enter s.number s.state it.edge part s.found s.at it.is) x it.from it.to
      ]

  pub find : (x : ℕ) → x < length flat → Found x
  find x lt =
      find_in depth root x (omega arith)
      (omega (arith, lt, length_copy graphs has_word depth 1 0 None))

  -- the same as a function
  abbrev own_spot : (d g first : ℕ) → Option Call → Spot
  own_spot d g first call = record { first = first; graph = g; depth = d; call = call }

  abbrev scan_if : (locate : (h m : ℕ) → Option Call → Spot) → (sizes : ℕ → ℕ) → (first next : ℕ) →
      Edge → (x : ℕ) → Option ℕ → Spot → Spot
  scan_if locate sizes first next edge x None later = later
  scan_if locate sizes first next edge x (Some h) later =
      cond (ltb x (next + sizes h))
      (locate h next (Some (record { caller = first; target = edge.target }))) later

  abbrev scan : (locate : (h m : ℕ) → Option Call → Spot) → (sizes : ℕ → ℕ) →
      (d first next : ℕ) → List Edge → (x : ℕ) → Spot → Spot
  scan locate sizes d first next [] x own = own
  scan locate sizes d first next (edge ∷ edges) x own =
      scan_if locate sizes first next edge x (copied_by graphs has_word d edge)
      (scan locate sizes d first (next + room graphs has_word sizes d edge) edges x own)

  abbrev locate : (x d g first : ℕ) → Option Call → Spot
  locate x zero g first call = own_spot zero g first call
  locate x (suc d) g first call = cond (ltb x (behind graphs has_word g first))
      (own_spot (suc d) g first call)
      (scan (λ h m call. locate x d h m call) (size graphs has_word d) (suc d) first
      (behind graphs has_word g first) (edges_of (states_at g)) x (own_spot (suc d) g first call))

  abbrev pub spot : ℕ → Spot
  spot x = locate x depth 1 0 None

  less : (x n : ℕ) (p q : Spot) → x < n → cond (ltb x n) p q ≡ p
  less x n p q lt = ap (λ (b : Bool). cond b p q) (lt-ltb x n lt)

  not_less : (x n : ℕ) (p q : Spot) → n ≤ x → cond (ltb x n) p q ≡ q
  not_less x n p q le = ap (λ (b : Bool). cond b p q) (not_below (ltb x n) refl)
    where
      not_below : (b : Bool) → ltb x n ≡ b → ltb x n ≡ false
      not_below true e = absurd (omega (arith, le, ltb-true x n e))
      not_below false e = e

  scan_finds : (loc : (h m : ℕ) → Option Call → Spot) (sizes : ℕ → ℕ) (d first : ℕ) (x : ℕ)
      (own : Spot) {next m : ℕ} {edges : List Edge} {edge : Edge} →
      At (room graphs has_word sizes d) next edges edge m → (h : ℕ) →
      copied_by graphs has_word d edge ≡ Some h → m ≤ x → x < m + sizes h →
      scan loc sizes d first next edges x own
      ≡ loc h m (Some (record { caller = first; target = edge.target }))
  scan_finds loc sizes d first x own {next = next} (here {edge = edge} {edges = edges}) h is from
      to =
      let later =
      scan loc sizes d first (next + room graphs has_word sizes d edge) edges x own in
      ap (λ (calls : Option ℕ). scan_if loc sizes first next edge x calls later) is
      ∙ less x (next + sizes h)
      (loc h next (Some (record { caller = first; target = edge.target }))) later to
  scan_finds loc sizes d first x own {next = next} {m = m}
      (there {other = other} {edges = edges} at) h is from to =
      let later =
      scan loc sizes d first (next + room graphs has_word sizes d other) edges x own in
      passes (copied_by graphs has_word d other) later
      (omega (arith, from, at_from (room graphs has_word sizes d) at))
      ∙ scan_finds loc sizes d first x own at h is from to
    where
      passes : (calls : Option ℕ) (later : Spot) → next + size_if graphs has_word sizes calls ≤ x →
          scan_if loc sizes first next other x calls later ≡ later
      passes None later le = refl
      passes (Some k) later le =
          not_less x (next + sizes k)
          (loc k next (Some (record { caller = first; target = other.target }))) later le

  pub located : {d g first : ℕ} {call : Option Call} → IsPart d g first call → (x : ℕ) → first ≤ x →
      x < first + size graphs has_word d g → spot x ≡ locate x d g first call
  located root x from to = refl
  located (enter {d = d} {g = g} {first = first} {h = h} {m = m} {call = call} a state edge part
      found at is) x from to =
      let here_at =
      at_state (room_at graphs has_word (suc d)) (behind graphs has_word g first) (states_at g) a
      state found at in
      let begins = at_from (room_at graphs has_word (suc d)) here_at in
      let ends = at_to (room_at graphs has_word (suc d)) here_at in
      let wide : room_at graphs has_word (suc d) edge ≡ size graphs has_word d h =
      ap (size_if graphs has_word (size graphs has_word d)) is in
      let own = own_spot (suc d) g first call in
      let later =
      scan (λ h m call. locate x d h m call) (size graphs has_word d) (suc d) first
      (behind graphs has_word g first) (edges_of (states_at g)) x own in
      located part x (omega (arith, begins, from)) (omega (arith, ends, wide, to))
      ∙ (not_less x (behind graphs has_word g first) own later (omega (arith, begins, from))
      ∙ scan_finds (λ h m call. locate x d h m call) (size graphs has_word d) (suc d) first x own
      here_at h is from to)

  -- a state of a copy is located there
  pub spot_of_part : {d g first : ℕ} {call : Option Call} → IsPart d g first call → (a : ℕ) →
      a < count g → spot (first + a) ≡ own_spot d g first call
  spot_of_part {d = d} {g = g} {first = first} {call = call} part a lt =
      located part (first + a) (omega arith) (omega (arith, lt, size_some d g)) ∙ own_at d
    where
      own_at : (d : ℕ) → locate (first + a) d g first call ≡ own_spot d g first call
      own_at zero = refl
      own_at (suc d) =
          less (first + a) (behind graphs has_word g first) (own_spot (suc d) g first call)
          (scan (λ h m call. locate (first + a) d h m call) (size graphs has_word d) (suc d) first
          (behind graphs has_word g first) (edges_of (states_at g)) (first + a)
          (own_spot (suc d) g first call)) (omega (arith, lt))
