-- Weights of places, which fall along each step of a search, so that it ends. Inner: the crate's own
-- functions alone speak of it.
use Rattle.std.specs.Prelude.{ℕ, suc, ◌+◌, ◌*◌, ◌^◌, List, [], ◌∷◌, length}
use Rattle.ux_net.specs.declared.net_graph.NetGraph.{NetGraph}
use Rattle.ux_net.specs.declared.state.State.{State}
use Rattle.ux_inflect.specs.declared.classes.Ranks.{Ranks}
use Rattle.ux_inflect.specs.declared.config.Config.{Config}
use Rattle.ux_inflect.specs.declared.config.Frame.{Frame}
use Rattle.ux_inflect.specs.Endings.{call_level, state_level}
use Rattle.ux_inflect.specs.Places.{place_of}

-- the sum of what is told of the members of a list
abbrev pub total : {A : Type 0} → (A → ℕ) → List A → ℕ
total f [] = 0
total f (x ∷ xs) = f x + total f xs

-- a number above every level of a state
abbrev pub base_of : Ranks → ℕ
base_of ranks = 3 + total (total (λ rank. rank)) ranks.states.items

-- a frame weighs the more, the higher the levels of its graph and of its state are
abbrev pub frame_weight : Ranks → Frame → ℕ
frame_weight ranks frame =
    suc (state_level ranks frame.graph frame.state)
    * base_of ranks ^ call_level ranks frame.graph

abbrev pub weight : Ranks → List Frame → ℕ
weight ranks frames = total (frame_weight ranks) frames

-- a number above that of the steps from any place
abbrev pub fan_of : List NetGraph → ℕ
fan_of net =
    2 + total (λ (graph : NetGraph). total (λ (state : State). length state.edges) graph.states) net

-- how much there is to search from a place, and from several
abbrev pub work_from : List NetGraph → Ranks → List Frame → ℕ
work_from net ranks frames = fan_of net ^ weight ranks frames

abbrev pub work_left : List NetGraph → Ranks → List Config → ℕ
work_left net ranks configs =
    total (λ (config : Config). work_from net ranks (place_of config).frames) configs
