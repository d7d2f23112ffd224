-- A mask on an edge of a net is one of the masks of the net, so the table tells of each edge.
use Rattle.std.proofs.Common.{arith, ◌≡◌, ℕ, zero, suc, List, [], Option, Some, None, refl, sym, subst}
use Rattle.std.specs.Prelude.{Contains, slice_get}
use Rattle.std.proofs.lemmas.Option.{slice_get_within}
use Rattle.ux_base.proofs.FirstsLemmas.{Contains-from_place}
use Rattle.ux_masks.specs.declared.mask.Mask as masks
use Rattle.ux_net.specs.declared.label.Label.{Label}
use Rattle.ux_net.specs.declared.label.Label.TheVariants.{Mask}
use Rattle.ux_net.specs.declared.net_graph.NetGraph.{NetGraph}
use Rattle.ux_net.specs.declared.state.Edge.{Edge}
use Rattle.ux_net.specs.declared.state.State.{State}
use Rattle.ux_net.specs.Masks.{masks_of, masks_of_edge, masks_of_graph, masks_of_label, masks_of_state}
use Rattle.ux_net.specs.Nets.{states_in, states_of}
use Rattle.ux_base.proofs.Lists.{contains_first}
use Rattle.ux_base.proofs.JoinedLists.{contains_joined}
use Rattle.ux_mask_table.specs.declared.masked_text.MaskedText.{MaskedText}
use Rattle.ux_mask_table.specs.MaskedTexts.{AreEdgesKnown, HasTable, IsKnown, IsMaskIn}

-- the mask of an edge at a state of a net stands in the net
pub mask_in_net : (net : List NetGraph) (g n : ℕ) (state : State) (edge : Edge) →
    slice_get (states_of net g) n ≡ Some state → Contains state.edges edge →
    IsMaskIn net edge.label
mask_in_net net g n state edge found inside mask has = of_number g found
  where
    of_state : Contains (masks_of_state state) mask
    of_state = contains_joined masks_of_edge state.edges edge mask inside has

    of_graph : (m : ℕ) (o : Option NetGraph) → slice_get net m ≡ o →
        slice_get (states_in o) n ≡ Some state → Contains (masks_of net) mask
    of_graph m None is at = absurd (let w = slice_get_within [] n state at in omega (arith, w))
    of_graph m (Some graph) is at =
        contains_joined masks_of_graph net graph mask (Contains-from_place net m graph is)
        (contains_joined masks_of_state graph.states state mask
        (Contains-from_place graph.states n state at) of_state)

    of_number : (h : ℕ) → slice_get (states_of net h) n ≡ Some state → Contains (masks_of net) mask
    of_number zero at = absurd (let w = slice_get_within [] n state at in omega (arith, w))
    of_number (suc m) at = of_graph m (slice_get net m) refl at

-- the table tells of the edges at a state of the net
pub edges_known : (text : MaskedText) (g n : ℕ) (state : State) → HasTable text →
    slice_get (states_of text.net.now g) n ≡ Some state → AreEdgesKnown text state.edges
edges_known text g n state has found = record {
  table = has;
  masks = λ edge. mask_in_net text.net.now g n state edge found;
}

-- it tells of the label of each of the edges
pub edge_known : (text : MaskedText) (edges : List Edge) (edge : Edge) → AreEdgesKnown text edges →
    Contains edges edge → IsKnown text edge.label
edge_known text edges edge known inside = record {
  table = known.table;
  mask = known.masks edge inside;
}

-- a mask of whose label the table tells stands in the net
pub known_mask : (text : MaskedText) (label : Label) (mask : masks.Mask) → IsKnown text label →
    label ≡ Mask mask → Contains (masks_of text.net.now) mask
known_mask text label mask known is = known.mask mask
    (subst (λ (l : Label). Contains (masks_of_label l) mask) (sym is) (contains_first mask []))
