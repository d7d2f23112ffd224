-- Which edges of a state may apply at a position, told by their places. Public: the contracts of an
-- input speak of it.
use Rattle.std.specs.Prelude.{◌≡◌, ℕ, ◌⊎◌, List, Some, slice_get, Contains}
use Rattle.ux_net.specs.declared.label.Label.{Label}
use Rattle.ux_net.specs.declared.label.Label.TheVariants.{CaseFolded, CaseExact}
use Rattle.ux_net.specs.declared.net_graph.NetGraph.{NetGraph}
use Rattle.ux_net.specs.declared.state.Edge.{Edge}
use Rattle.ux_net.specs.declared.state.State.{State}
use Rattle.ux_net.specs.Nets.{net_grammar, states_of}
use Rattle.ux_meaning.specs.Inputs.{Input}
use Rattle.ux_parts.specs.Runs.{NextBy}
use Rattle.ux_chart.specs.declared.config.Config.{Config}

-- the edges are those of a state of a graph
abbrev pub AreEdgesOf : List NetGraph → (g n : ℕ) → List Edge → Type 0
AreEdgesOf net g n edges =
    (state : State) × (slice_get (states_of net g) n ≡ Some state) × (state.edges ≡ edges)

-- a literal that takes nothing from position i; any other label may apply
abbrev pub Refuses : Input → Label → (i : ℕ) → Type 0
Refuses input (CaseFolded text) i = (k : ℕ) → input.Takes (CaseFolded text) i k → ⊥
Refuses input (CaseExact text) i = (k : ℕ) → input.Takes (CaseExact text) i k → ⊥
Refuses input label i = ⊥

-- each edge stands at one of the places, or its label refuses
abbrev pub AreEnough : Input → List Edge → (places : List ℕ) → (i : ℕ) → Type 0
AreEnough input edges places i = (place : ℕ) (edge : Edge) → slice_get edges place ≡ Some edge →
    Contains places place ⊎ Refuses input edge.label i

module _ (input : Input) (net : List NetGraph) (levels g : ℕ) (here : Config) where
  -- the edge leads on to another configuration
  abbrev pub Follows : Edge → (next : Config) → Type 0
  Follows edge next = NextBy input (net_grammar net) levels g edge.label edge.target here.at
      next.state next.at

  -- one of the edges does
  abbrev pub SomeFollows : List Edge → (next : Config) → Type 0
  SomeFollows edges next = (edge : Edge) × Contains edges edge × Follows edge next

  -- the edge at a place does, if one stands there
  abbrev pub FollowsAt : List Edge → (place : ℕ) → (next : Config) → Type 0
  FollowsAt edges place next =
      (edge : Edge) × (slice_get edges place ≡ Some edge) × Follows edge next

  -- the edge at one of the places does
  abbrev pub SomeFollowsAt : List Edge → (places : List ℕ) → (next : Config) → Type 0
  SomeFollowsAt edges places next =
      (place : ℕ) × Contains places place × FollowsAt edges place next
