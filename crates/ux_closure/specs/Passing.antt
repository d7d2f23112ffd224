-- Steps of a walk that take no token. Public: the contracts of the automaton speak of it.
use Rattle.std.specs.Prelude.{◌≡◌, ℕ, List, [], ◌∷◌, ◌⊎◌, Bool, false, Some, slice_get, Contains, IsTrue}
use Rattle.ux_net.specs.declared.label.Label.{Label}
use Rattle.ux_net.specs.declared.label.Label.TheVariants.{Empty, NoSpace, Begin, End, Cut, Call}
use Rattle.ux_net.specs.declared.state.Edge.{Edge}
use Rattle.ux_net.specs.declared.state.State.{State}
use Rattle.ux_net.specs.declared.net_graph.NetGraph.{NetGraph}
use Rattle.ux_net.specs.Nets.{states_of}
use Rattle.ux_walk.specs.declared.config.Frame.{Frame}
use Rattle.ux_walk.specs.Leads.{Stack}

-- the label lets a walk pass with no token: the empty word, `#` where no space stands, a variable's
-- begin or end, and a cut
abbrev pub LetsPass : (is_spaced : Bool) → Label → Type 0
LetsPass is_spaced Empty = Unit {0}
LetsPass is_spaced NoSpace = is_spaced ≡ false
LetsPass is_spaced (Begin name) = Unit {0}
LetsPass is_spaced (End name) = Unit {0}
LetsPass is_spaced Cut = Unit {0}
LetsPass is_spaced other = ⊥

-- the frame to which an edge leads
abbrev pub behind : Frame → Edge → Frame
behind f edge = record { graph = f.graph; state = edge.target }

-- the first frame of a graph
abbrev pub start_of : ℕ → Frame
start_of graph = record { graph = graph; state = 0 }

-- the stack after an edge that takes no token: behind it, or first in the graph that it calls
abbrev pub IsPast : (is_spaced : Bool) → Frame → Stack → Edge → Stack → Type 0
IsPast is_spaced f fs edge next =
    (LetsPass is_spaced edge.label × (next ≡ behind f edge ∷ fs))
    ⊎ ((h : ℕ) × (edge.label ≡ Call h) × (next ≡ start_of h ∷ behind f edge ∷ fs))

module _ (net : List NetGraph) (is_spaced : Bool) where
  -- one step that takes no token: past an edge of the state, or back from a final one
  abbrev pub PassesOn : Stack → Stack → Type 0
  PassesOn [] next = ⊥
  PassesOn (f ∷ fs) next =
      (state : State) × (slice_get (states_of net f.graph) f.state ≡ Some state)
      × (((edge : Edge) × Contains state.edges edge × IsPast is_spaced f fs edge next)
      ⊎ (IsTrue state.is_final × (next ≡ fs)))

  -- none, one or several such steps
  pub data Reaches : Stack → Stack → Type 0 where
    stays : {stack : Stack} → Reaches stack stack
    passes : {stack last : Stack} (next : Stack) → PassesOn stack next → Reaches next last →
        Reaches stack last

  -- one of these stacks reaches it
  abbrev pub ReachedFrom : (given : Stack → Type 0) → Stack → Type 0
  ReachedFrom given stack = (first : Stack) × given first × Reaches first stack
