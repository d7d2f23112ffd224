-- The edges of a flat graph lead to its states and call nothing, and its states can be numbered.
use Rattle.std.proofs.Common.{arith, ◌≡◌, ℕ, zero, suc, ◌<◌, ◌≤◌, List, [], ◌∷◌, Some, refl, sym, subst, ◌∙◌, inl, inr, length, slice_get, Bool}
use Rattle.std.specs.Prelude.{None, Contains}
use Rattle.ux_base.proofs.Lists.{less_or}
use Rattle.ux_net.specs.declared.label.Label.{Label}
use Rattle.ux_net.specs.declared.label.Label.TheVariants as label
use Rattle.ux_net.specs.declared.state.Edge.{Edge}
use Rattle.ux_net.specs.declared.state.State.{State}
use Rattle.ux_net.specs.declared.state_graph.StateGraph.{StateGraph}
use Rattle.ux_net.specs.Nets.{IsCalled, IsEdgeInside, IsNetStep}
use Rattle.ux_net.specs.StateGraphs.{AreInsideStates, state_grammar, told_at, told_states}
use Rattle.ux_net.specs.Words.{Step}
use Rattle.ux_flatten.specs.Copies.{flat_graph, size}
use Rattle.ux_flatten.specs.Flattening.{IsFlattened, MOST_STATES, TellsWords}
use Rattle.ux_flatten.proofs.FlatGraphs.{IsUncalled, IsCopied, own, enters, leaves, stops}
use Rattle.ux_flatten.proofs.FlatLaw.{is_flat, one_label}
use Rattle.ux_flatten.proofs.CopyLayout as copies
use Rattle.ux_flatten.proofs.CopyLayout.{stop_text}
use Rattle.ux_flatten.proofs.CopyParts.{root, size_some}
use Rattle.ux_flatten.proofs.CopyStates.{length_copy}

-- what doesn't call is no call of a graph that isn't there
uncalled_called : (count : ℕ) (x : Label) → IsUncalled x → IsCalled count x
uncalled_called count label.Empty u = tt
uncalled_called count (label.CaseFolded text) u = tt
uncalled_called count (label.CaseExact text) u = tt
uncalled_called count (label.Mask mask) u = tt
uncalled_called count (label.Brace text) u = tt
uncalled_called count label.Space u = tt
uncalled_called count label.NoSpace u = tt
uncalled_called count (label.Begin name) u = tt
uncalled_called count (label.End name) u = tt
uncalled_called count label.Positive u = tt
uncalled_called count label.Negative u = tt
uncalled_called count label.ContextEnd u = tt
uncalled_called count label.Cut u = tt
uncalled_called count (label.Call h) u = absurd u

module _ (graphs : List StateGraph) (has_word : ℕ → Bool) (depth : ℕ)
    (tells : TellsWords graphs has_word) (inside : AreInsideStates graphs)
    (some : 1 ≤ length graphs) where
  abbrev flat : List State
  flat = copies.flat_states graphs has_word depth tells inside some

  abbrev Copied : Step → Type 0
  Copied = IsCopied (state_grammar graphs) (copies.layout graphs has_word depth tells inside some)
      stop_text (copies.flat_steps graphs has_word depth tells inside some)

  -- where a step leads, and that it calls nothing
  to_state : (s : Step) → Copied s → s.to < length flat
  to_state s (own c t o) = o.to.is
  to_state s (enters c t h e) = e.to.is
  to_state s (leaves c a l) = l.to.is
  to_state s (stops c t h z) = z.to.is

  calls_nothing : (s : Step) (x : Label) → s.labels ≡ x ∷ [] → Copied s → IsCalled 1 x
  calls_nothing s x is (own c t o) =
      subst (IsCalled 1) (one_label o.label x (sym o.labels ∙ (sym o.same_labels ∙ is)))
      (uncalled_called 1 o.label o.uncalled)
  calls_nothing s x is (enters c t h e) =
      subst (IsCalled 1) (one_label label.Empty x (sym e.empty ∙ is)) tt
  calls_nothing s x is (leaves c a l) =
      subst (IsCalled 1) (one_label label.Empty x (sym l.empty ∙ is)) tt
  calls_nothing s x is (stops c t h z) =
      subst (IsCalled 1) (one_label (label.CaseExact stop_text) x (sym z.stopped ∙ is)) tt

  -- the flat graph isn't too big
  pub size_few : IsFlattened graphs depth → size graphs has_word depth 1 ≤ MOST_STATES
  size_few flattened = elim (less_or MOST_STATES (size graphs has_word depth 1)) [
    | inl big ↦
        absurd (flattened.not_too_big
        (record { has_word = has_word; tells = tells; big = inl big }))
    | inr few ↦ few
  ]

  states_some : 0 < length flat
  states_some =
      omega (
        arith,
        length_copy graphs has_word depth 1 0 None,
        size_some graphs has_word depth depth 1,
        copies.part_some graphs has_word depth tells inside some root,
      )

  abbrev whole : List StateGraph
  whole = flat_graph graphs has_word depth ∷ []

  edge_inside : (n : ℕ) (state : State) (edge : Edge) → slice_get flat n ≡ Some state →
      Contains state.edges edge → IsEdgeInside 1 (length flat) edge
  edge_inside n state edge found within =
      let s : Step =
      record { from = n; to = edge.target; output = edge.output; labels = edge.label ∷ [] } in
      let i : IsNetStep flat s = record {
        state = state;
        found = found;
        edge = edge;
        inside = within;
        to = refl;
        label = refl;
        puts = refl;
      } in
      let copied = (is_flat graphs has_word depth tells inside some).steps s i in
      record { target = to_state s copied; called = calls_nothing s edge.label refl copied }

  -- the law
  pub flat_inside : IsFlattened graphs depth → AreInsideStates whole
  flat_inside flattened = record { start = starts; few = few; edges = edges }
    where
      starts : (g : ℕ) (graph : StateGraph) → told_at whole g ≡ Some graph →
          0 < length graph.states
      starts zero graph is = let none : None ≡ Some graph = is in cc
      starts (suc zero) graph is =
          let same : flat_graph graphs has_word depth ≡ graph = cc in
          subst (λ (g : StateGraph). 0 < length g.states) same states_some
      starts (suc (suc g)) graph is = let none : None ≡ Some graph = is in cc

      few : (g : ℕ) (graph : StateGraph) → told_at whole g ≡ Some graph →
          length graph.states < 4294967296
      few zero graph is = let none : None ≡ Some graph = is in cc
      few (suc zero) graph is =
          let same : flat_graph graphs has_word depth ≡ graph = cc in
          subst (λ (g : StateGraph). length g.states < 4294967296) same
          (omega (arith, length_copy graphs has_word depth 1 0 None, size_few flattened))
      few (suc (suc g)) graph is = let none : None ≡ Some graph = is in cc

      edges : (g n : ℕ) (state : State) (edge : Edge) →
          slice_get (told_states whole g) n ≡ Some state → Contains state.edges edge →
          IsEdgeInside 1 (length (told_states whole g)) edge
      edges zero n state edge found within = let none : None ≡ Some state = found in cc
      edges (suc zero) n state edge found within = edge_inside n state edge found within
      edges (suc (suc g)) n state edge found within = let none : None ≡ Some state = found in cc
