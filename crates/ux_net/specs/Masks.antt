-- The different masks of a net. Public: the crate's public contracts speak of it.
use Rattle.std.specs.Prelude.{◌≡◌, ℕ, List, [], ◌∷◌, length, map}
use Rattle.std.specs.List.{flat_map}
use Rattle.indexmap.specs.IndexSet.{IndexSet}
use denote.Ref.{Bor}
use Rattle.ux_base.specs.Distinct.{AreFirsts}
use Rattle.ux_masks.specs.declared.mask.Mask as masks
use Rattle.ux_net.specs.declared.label.Label.{Label}
use Rattle.ux_net.specs.declared.label.Label.TheVariants.{Mask}
use Rattle.ux_net.specs.declared.net_graph.NetGraph.{NetGraph}
use Rattle.ux_net.specs.declared.state.Edge.{Edge}
use Rattle.ux_net.specs.declared.state.State.{State}

-- the mask of a label, if it is one
abbrev pub masks_of_label : Label → List masks.Mask
masks_of_label (Mask mask) = mask ∷ []
masks_of_label other = []

abbrev pub masks_of_edge : Edge → List masks.Mask
masks_of_edge edge = masks_of_label edge.label

abbrev pub masks_of_state : State → List masks.Mask
masks_of_state state = flat_map masks_of_edge state.edges

abbrev pub masks_of_graph : NetGraph → List masks.Mask
masks_of_graph graph = flat_map masks_of_state graph.states

-- the masks on the edges of a net, in order of graph, state and edge
abbrev pub masks_of : List NetGraph → List masks.Mask
masks_of graphs = flat_map masks_of_graph graphs

-- the list has each mask that stands on an edge once
abbrev pub AreMasksOf : List NetGraph → List masks.Mask → Type 0
AreMasksOf graphs masks = AreFirsts (masks_of graphs) masks

-- so many different masks stand on the edges
abbrev pub IsMaskCount : List NetGraph → ℕ → Type 0
IsMaskCount graphs count =
    (masks : List masks.Mask) × AreMasksOf graphs masks × (length masks ≡ count)

-- the masks in a set, in order
abbrev pub masks_in : {S : Type 0} → IndexSet (Bor masks.Mask) S → List masks.Mask
masks_in set = map (λ mask. mask.now) set.keys
