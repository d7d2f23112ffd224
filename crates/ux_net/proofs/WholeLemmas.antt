-- The states of a net with what is kept aside of them: as many as are searched, each with its own
-- entry put back, and where nothing is kept aside, the same.
use Rattle.std.proofs.Common.{arith, ◌≡◌, ℕ, zero, suc, ◌+◌, ◌<◌, ◌≤◌, List, [], ◌∷◌, refl, sym, ◌∙◌, ap, ◌⊎◌, inl, inr, length, get_or, false, Some, None}
use Rattle.std.specs.Prelude.{Option, slice_get}
use Rattle.std.proofs.lemmas.Option.{slice_get_cases}
use Rattle.ux_net.specs.declared.net_graph.NetGraph.{NetGraph}
use Rattle.ux_net.specs.declared.net_graph.UnmetState.{UnmetState}
use Rattle.ux_net.specs.declared.state.State.{State}
use Rattle.ux_net.specs.Nets.{graph_at, states_in, states_of}
use Rattle.ux_net.specs.Whole.{unmet_in, put_back, whole_from, whole_in, whole_states_of, unmet_at}

-- what stands for an entry where a list has none
abbrev pub nothing : UnmetState
nothing = record { number = 0; is_final = false; edges = [] }

-- state i of those from n on
pub whole_at : (unmet : List UnmetState) (n : ℕ) (states : List State) (i : ℕ) (state : State) →
    slice_get states i ≡ Some state →
    slice_get (whole_from unmet n states) i ≡ Some (put_back (unmet_in unmet (n + i)) state)
whole_at unmet n [] i state found = cc
whole_at unmet n (s ∷ rest) zero state found =
    let same : n ≡ n + zero = omega arith in
    ap (λ (o : Option State). put_some (unmet_in unmet n) o) found
    ∙ ap (λ m. Some (put_back (unmet_in unmet m) state)) same
  where
    put_some : Option UnmetState → Option State → Option State
    put_some entry None = None
    put_some entry (Some s) = Some (put_back entry s)
whole_at unmet n (s ∷ rest) (suc i) state found =
    let same : n + 1 + i ≡ n + suc i = omega arith in
    whole_at unmet (n + 1) rest i state found
    ∙ ap (λ m. Some (put_back (unmet_in unmet m) state)) same

-- there are as many
pub length_whole : (unmet : List UnmetState) (n : ℕ) (states : List State) →
    length (whole_from unmet n states) ≡ length states
length_whole unmet n [] = refl
length_whole unmet n (s ∷ rest) = ap suc (length_whole unmet (n + 1) rest)

-- where nothing is kept aside, they are the same
pub whole_same : (n : ℕ) (states : List State) → whole_from [] n states ≡ states
whole_same n [] = refl
whole_same n (s ∷ rest) = ap (λ l. s ∷ l) (whole_same (n + 1) rest)

-- a state of a graph, with what the entries of the graph keep of it
pub whole_there : (graphs : List NetGraph) (g n : ℕ) → n < length (states_of graphs g) →
    (entry : Option UnmetState) → entry ≡ unmet_in (unmet_at (graph_at graphs g)) n →
    (state : State) × (slice_get (states_of graphs g) n ≡ Some state)
    × (slice_get (whole_states_of graphs g) n ≡ Some (put_back entry state))
whole_there graphs g n inside entry is = go (graph_at graphs g) inside is
  where
    by : (graph : NetGraph) → entry ≡ unmet_in graph.unmet n →
        ((x : State) × (n < length graph.states) × (slice_get graph.states n ≡ Some x)
        × (get_or graph.states n x ≡ x))
        ⊎ ((length graph.states ≤ n) × (slice_get graph.states n ≡ None)) →
        n < length graph.states →
        (state : State) × (slice_get graph.states n ≡ Some state)
        × (slice_get (whole_from graph.unmet 0 graph.states) n ≡ Some (put_back entry state))
    by graph is (inl h) inside =
        let same : 0 + n ≡ n = omega arith in (
          h.0,
          h.2,
          whole_at graph.unmet 0 graph.states n h.0 h.2
              ∙ ap (λ (o : Option UnmetState). Some (put_back o h.0))
              (ap (unmet_in graph.unmet) same ∙ sym is),
        )
    by graph is (inr past) inside = absurd (let p = past.0 in omega (arith, p, inside))

    go : (o : Option NetGraph) → n < length (states_in o) → entry ≡ unmet_in (unmet_at o) n →
        (state : State) × (slice_get (states_in o) n ≡ Some state)
        × (slice_get (whole_in o) n ≡ Some (put_back entry state))
    go None inside is = absurd (omega (arith, inside))
    go (Some graph) inside is = by graph is (slice_get_cases graph.states n).1 inside
