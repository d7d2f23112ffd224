-- What a net that is built of states has: the states to which runs come, with the ranks and the marks
-- of their hubs.
use Rattle.std.proofs.Common.{arith, ◌≡◌, ℕ, zero, suc, ◌+◌, ◌*◌, ◌<◌, ◌≤◌, List, [], ◌∷◌, refl, sym, ◌∙◌, ap, subst, ◌⊎◌, inl, inr, length, get_or, map, Bool, true, false, Some, None}
use Rattle.std.specs.Prelude.{slice_get, Contains, sum_by}
use Rattle.std.proofs.lemmas.List.{get_or-map}
use Rattle.std.proofs.lemmas.List.Sums.{sum_by-cons}
use Rattle.std.proofs.lemmas.Option.{slice_get_cases, slice_get_within}
use Rattle.ux_base.proofs.Lists.{nothing_in}
use Rattle.ux_net.specs.declared.label.Label.{Label}
use Rattle.ux_net.specs.declared.label.Label.TheVariants.{Empty}
use Rattle.ux_net.specs.declared.net_graph.NetGraph.{NetGraph}
use Rattle.ux_net.specs.declared.net_graph.Rank.{Rank}
use Rattle.ux_net.specs.declared.state.Edge.{Edge}
use Rattle.ux_net.specs.declared.state.State.{State}
use Rattle.ux_net.specs.declared.state_graph.StateGraph.{StateGraph}
use Rattle.ux_net.specs.Measured.{width_of, weigh, rank_in, rank_of, frees_in, is_free}
use Rattle.ux_net.specs.Nets.{graph_at, states_in, states_of, IsNetStep, IsNetEnd}
use Rattle.ux_net.specs.StateGraphs.{told_at, told_in, told_states}
use Rattle.ux_net.specs.Words.{Step}
use Rattle.ux_boxes.specs.Places.{places_of}
use Rattle.ux_admission.specs.Admission.{row_at, place_rank, is_place_free}
use Rattle.ux_state_places.specs.Standing.{hub_of}
use Rattle.ux_state_places.proofs.RunLifts.{IsMetState}
use Rattle.ux_states.specs.Building.{is_met, hub_rank, hub_free, searched_from, closers_at, IsBuiltOf}
use Rattle.ux_states.proofs.Found.{Found, IsBuilt}
use Rattle.ux_states.proofs.PartedLemmas.{searched_at, searched_back}

-- a sum of nothings
sum_zero : {A : Type 0} (f : A → ℕ) (xs : List A) →
    ((i : ℕ) (x : A) → slice_get xs i ≡ Some x → f x ≡ 0) → sum_by f xs ≡ 0
sum_zero f [] none = refl
sum_zero f (x ∷ xs) none =
    let e = sum_by-cons f x xs in
    let first = none 0 x refl in
    let later = sum_zero f xs (λ i y found. none (suc i) y found) in
    omega (arith, e, first, later)

-- the minor numbers of hubs' ranks are nothing
minors_zero : (row hubs : List ℕ) →
    sum_by (λ (rank : Rank). rank.minor) (map (hub_rank row) hubs) ≡ 0
minors_zero row [] = refl
minors_zero row (hub ∷ hubs) =
    let e = sum_by-cons (λ (rank : Rank). rank.minor) (hub_rank row hub) (map (hub_rank row) hubs) in
    let later = minors_zero row hubs in
    omega (arith, e, later)

from_zero : (n : ℕ) → 0 + n ≡ n
from_zero n = omega arith

-- the first of some labels
abbrev pub first : List Label → Label
first [] = Empty
first (x ∷ xs) = x

-- the step along an edge of a state
abbrev pub step_of : ℕ → Edge → Step
step_of n edge =
    record { from = n; to = edge.target; output = edge.output; labels = edge.label ∷ [] }

module _ (it : Found) (net : List NetGraph) (made : IsBuilt it net) where
  open it use {graphs, places, stands, hubs, rows, ranks, free, stand}

  abbrev pub met : ℕ → ℕ → Bool
  met g n = is_met (places_of places g) (row_at hubs g) n

  abbrev Of : ℕ → StateGraph → NetGraph → Type 0
  Of g graph built = IsBuiltOf graph (places_of places g) (row_at stands g) (row_at hubs g)
      (closers_at places rows g) (row_at ranks g) (row_at free g) built

  -- a graph of the net is built of one that is told
  pub record Both (g : ℕ) : Type 0 where
    pub graph : StateGraph
    pub told : told_at graphs g ≡ Some graph
    pub built : NetGraph
    pub there : graph_at net g ≡ Some built
    pub of : Of g graph built

  -- there is one of each, or none
  pub both : (g : ℕ) → Both g ⊎ ((told_at graphs g ≡ None) × (graph_at net g ≡ None))
  both zero = inr (refl, refl)
  both (suc n) = go (slice_get_cases graphs n).1 (slice_get_cases net n).1
    where
      go : ((x : StateGraph) × (n < length graphs) × (slice_get graphs n ≡ Some x)
          × (get_or graphs n x ≡ x)) ⊎ ((length graphs ≤ n) × (slice_get graphs n ≡ None)) →
          ((x : NetGraph) × (n < length net) × (slice_get net n ≡ Some x)
          × (get_or net n x ≡ x)) ⊎ ((length net ≤ n) × (slice_get net n ≡ None)) →
          Both (suc n)
          ⊎ ((told_at graphs (suc n) ≡ None) × (graph_at net (suc n) ≡ None))
      go (inl x) (inl y) = inl (record {
        graph = x.0;
        told = x.2;
        built = y.0;
        there = y.2;
        of = made.each (suc n) x.0 y.0 x.2 y.2;
      })
      go (inl x) (inr q) =
          absurd (let c = made.count in let lt = x.1 in let le = q.0 in omega (arith, c, lt, le))
      go (inr p) (inl y) =
          absurd (let c = made.count in let lt = y.1 in let le = p.0 in omega (arith, c, lt, le))
      go (inr p) (inr q) = inr (p.1, q.1)

  -- the states that are searched are those that are told, parted
  pub states_are : (g : ℕ) → states_of net g ≡ searched_from (met g) 0 (told_states graphs g)
  states_are g = elim (both g) [
    | inl b ↦
        ap states_in b.there
        ∙ (b.of.states ∙ ap (λ o. searched_from (met g) 0 (told_in o)) (sym b.told))
    | inr none ↦
        ap states_in none.1 ∙ ap (λ o. searched_from (met g) 0 (told_in o)) (sym none.0)
  ]

  -- a graph that has a state
  pub there : (g n : ℕ) → n < length (told_states graphs g) → Both g
  there g n inside = elim (both g) [
    | inl b ↦ b
    | inr none ↦
        absurd (let e = ap (λ o. length (told_in o)) none.0 in omega (arith, e, inside))
  ]

  -- no minor number is above nothing
  width_zero : width_of net ≡ 0
  width_zero =
      sum_zero (λ (graph : NetGraph). sum_by (λ (rank : Rank). rank.minor) graph.ranks) net
      (λ i built found. each i built found)
    where
      each : (i : ℕ) (built : NetGraph) → slice_get net i ≡ Some built →
          sum_by (λ (rank : Rank). rank.minor) built.ranks ≡ 0
      each i built found = go (slice_get_cases graphs i).1
        where
          go : ((x : StateGraph) × (i < length graphs) × (slice_get graphs i ≡ Some x)
              × (get_or graphs i x ≡ x)) ⊎ ((length graphs ≤ i) × (slice_get graphs i ≡ None)) →
              sum_by (λ (rank : Rank). rank.minor) built.ranks ≡ 0
          go (inl x) =
              ap (sum_by (λ (rank : Rank). rank.minor)) (made.each (suc i) x.0 built x.2 found).ranks
              ∙ minors_zero (row_at ranks (suc i)) (row_at hubs (suc i))
          go (inr past) =
              absurd (let w = slice_get_within net i built found in let c = made.count in
              let le = past.0 in omega (arith, w, c, le))

  -- the rank of a state is that of its hub
  pub rank_is : (g n : ℕ) → n < length (told_states graphs g) →
      rank_of net g n ≡ place_rank ranks g (hub_of graphs places stands hubs g n)
  rank_is g n inside =
      let b = there g n inside in
      let len = stand.have_hubs.row g in
      let lt : n < length (row_at hubs g) = omega (arith, len, inside) in
      ap (λ o. rank_in (width_of net) o n) b.there
      ∙ (ap (λ l. weigh (width_of net) (get_or l n (record { major = 0; minor = 0 }))) b.of.ranks
      ∙ (ap (weigh (width_of net)) (get_or-map (hub_rank (row_at ranks g)) (row_at hubs g) n 0
      (record { major = 0; minor = 0 }) lt)
      ∙ (ap (λ w. place_rank ranks g (hub_of graphs places stands hubs g n) * (w + 1) + 0) width_zero
      ∙ omega arith)))

  -- and so is its mark
  pub free_is : (g n : ℕ) → n < length (told_states graphs g) →
      is_free net g n ≡ is_place_free free g (hub_of graphs places stands hubs g n)
  free_is g n inside =
      let b = there g n inside in
      let len = stand.have_hubs.row g in
      let lt : n < length (row_at hubs g) = omega (arith, len, inside) in
      ap (λ o. frees_in o n) b.there
      ∙ (ap (λ l. get_or l n false) b.of.free
      ∙ get_or-map (hub_free (row_at free g)) (row_at hubs g) n 0 false lt)

  abbrev Met : ℕ → ℕ → Type 0
  Met g n = IsMetState graphs places stands hubs stand g n

  -- a state of the net is a bare one, or one that is told and to which a run comes
  pub of_state : (g n : ℕ) (state : State) → slice_get (states_of net g) n ≡ Some state →
      (edge : Edge) → Contains state.edges edge →
      Met g n × IsNetStep (told_states graphs g) (step_of n edge)
  of_state g n state found edge within =
      elim (searched_back (met g) (told_states graphs g) 0 n state
      (ap (λ l. slice_get l n) (sym (states_are g)) ∙ found)) [
        | inl (is, told) ↦ (
          record {
            inside = slice_get_within (told_states graphs g) n state told;
            reached = sym (ap (met g) (from_zero n)) ∙ is;
          },
          record {
            state = state;
            found = told;
            edge = edge;
            inside = within;
            to = refl;
            label = refl;
            puts = refl;
          },
        )
        | inr bare ↦ absurd (nothing_in {x = edge}
            (subst (λ (s : State). Contains s.edges edge) bare within))
      ]

  -- so a step of the net is one that is told, from a state to which a run comes
  pub of_step : (g : ℕ) (t : Step) → IsNetStep (states_of net g) t →
      Met g t.from × IsNetStep (told_states graphs g) t
  of_step g t i =
      let r = of_state g t.from i.state i.found i.edge i.inside in (
        r.0,
        record {
          state = r.1.state;
          found = r.1.found;
          edge = r.1.edge;
          inside = r.1.inside;
          to = i.to ∙ r.1.to;
          label = i.label ∙ r.1.label;
          puts = i.puts ∙ r.1.puts;
        },
      )

  -- and a step that is told, from such a state, is one of the net
  pub to_step : (g : ℕ) (t : Step) → IsNetStep (told_states graphs g) t → Met g t.from →
      IsNetStep (states_of net g) t
  to_step g t i m = record {
    state = i.state;
    found = ap (λ l. slice_get l t.from) (states_are g)
        ∙ searched_at (met g) (told_states graphs g) 0 t.from i.state i.found
        (ap (met g) (from_zero t.from) ∙ m.reached);
    edge = i.edge;
    inside = i.inside;
    to = i.to;
    label = i.label;
    puts = i.puts;
  }

  -- the same of ends
  pub of_end : (g n : ℕ) → IsNetEnd (states_of net g) n →
      Met g n × IsNetEnd (told_states graphs g) n
  of_end g n e =
      elim (searched_back (met g) (told_states graphs g) 0 n e.state
      (ap (λ l. slice_get l n) (sym (states_are g)) ∙ e.found)) [
        | inl (is, told) ↦ (
          record {
            inside = slice_get_within (told_states graphs g) n e.state told;
            reached = sym (ap (met g) (from_zero n)) ∙ is;
          },
          record { state = e.state; found = told; final = e.final },
        )
        | inr bare ↦
            absurd (let f : false ≡ true = subst (λ (s : State). s.is_final ≡ true) bare e.final in cc)
      ]

  pub to_end : (g n : ℕ) → IsNetEnd (told_states graphs g) n → Met g n →
      IsNetEnd (states_of net g) n
  to_end g n e m = record {
    state = e.state;
    found = ap (λ l. slice_get l n) (states_are g)
        ∙ searched_at (met g) (told_states graphs g) 0 n e.state e.found
        (ap (met g) (from_zero n) ∙ m.reached);
    final = e.final;
  }
