-- The masks of a net are noted graph by graph, and state by state.
use Rattle.std.proofs.Common.{arith, add-one, ◌≡◌, ℕ, ◌+◌, ◌<◌, List, Option, Some, None, refl, sym, ◌∙◌, inl, inr, subst, length, take}
use Rattle.std.specs.Prelude.{IsSomeAnd, slice_get}
use Rattle.std.specs.List.{flat_map}
use Rattle.std.proofs.lemmas.Option.{get_or_from_slice_get, none-some, slice_get_cases}
use Rattle.ux_base.specs.Distinct.{GrowsBy}
use Rattle.ux_base.proofs.FirstsLemmas.{GrowsBy-next}
use Rattle.ux_masks.specs.declared.mask.Mask.{Mask}
use Rattle.ux_net.specs.declared.net_graph.NetGraph.{NetGraph}
use Rattle.ux_net.specs.declared.state.Edge.{Edge}
use Rattle.ux_net.specs.declared.state.State.{State}
use Rattle.ux_net.specs.Masks.{masks_of_edge, masks_of_graph, masks_of_state}
use Rattle.ux_net.specs.Nets.{states_in, states_of}

none_past : {A : Type 0} (xs : List A) (n : ℕ) → slice_get xs n ≡ None → n < length xs → ⊥
none_past xs n is inside =
    elim (slice_get_cases xs n).1 [
      | inl s ↦ absurd (none-some s.0 (sym is ∙ s.2))
      | inr s ↦ let past = s.0 in absurd (omega (arith, past, inside))
    ]

-- one graph more
pub graph_more : (net : List NetGraph) (n : ℕ) (old mid new : List Mask) → n < length net →
    GrowsBy (flat_map masks_of_graph (take n net)) old mid →
    GrowsBy (flat_map masks_of_state (states_of net (n + 1))) mid new →
    GrowsBy (flat_map masks_of_graph (take (n + 1) net)) old new
graph_more net n old mid new inside one other = by (slice_get net n) refl
  where
    by : (o : Option NetGraph) → slice_get net n ≡ o →
        GrowsBy (flat_map masks_of_graph (take (n + 1) net)) old new
    by None is = absurd (none_past net n is inside)
    by (Some graph) is =
        GrowsBy-next masks_of_graph net n graph old mid new inside
        (sym (get_or_from_slice_get net n graph graph is)) one
        (subst (λ (o : Option NetGraph). GrowsBy (flat_map masks_of_state (states_in o)) mid new) is
        (subst (λ g. GrowsBy (flat_map masks_of_state (states_of net g)) mid new) (add-one n) other))

-- one state more
pub state_more : (states : List State) (n : ℕ) (edges : List Edge) (old mid new : List Mask) →
    n < length states → IsSomeAnd (slice_get states n) (λ s. edges ≡ s.edges) →
    GrowsBy (flat_map masks_of_state (take n states)) old mid →
    GrowsBy (flat_map masks_of_edge edges) mid new →
    GrowsBy (flat_map masks_of_state (take (n + 1) states)) old new
state_more states n edges old mid new inside has one other = by (slice_get states n) refl has
  where
    by : (o : Option State) → slice_get states n ≡ o → IsSomeAnd o (λ s. edges ≡ s.edges) →
        GrowsBy (flat_map masks_of_state (take (n + 1) states)) old new
    by None is h = absurd h
    by (Some state) is h =
        GrowsBy-next masks_of_state states n state old mid new inside
        (sym (get_or_from_slice_get states n state state is)) one
        (subst (λ (es : List Edge). GrowsBy (flat_map masks_of_edge es) mid new) h other)
