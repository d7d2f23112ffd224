-- The parts of a net: what is searched by itself. A part is a graph from its first state, or the body
-- of a context from the state after its opening edge. Public: the contracts of the table speak of it.
use Rattle.std.specs.Prelude.{◌≡◌, ℕ, zero, suc, ◌<◌, ◌≤◌, List, [], ◌∷◌, Option, Some, None, slice_get, get_or, Contains, length}
use Rattle.ux_net.specs.declared.label.Label.{Label}
use Rattle.ux_net.specs.declared.label.Label.TheVariants.{Positive, Negative}
use Rattle.ux_net.specs.declared.state.Edge.{Edge}
use Rattle.ux_net.specs.declared.state.State.{State}
use Rattle.ux_net.specs.declared.net_graph.NetGraph.{NetGraph}
use Rattle.ux_net.specs.Closings.{IsClosedInto, closing_of as closing_told}
use Rattle.ux_net.specs.Nets.{states_of, net_grammar}
use Rattle.ux_net.specs.Levels.{HasLevels}
use Rattle.ux_parts.specs.declared.part.Part.{Part}
use Rattle.ux_parts.specs.declared.parts.Parts.{Parts}
use Rattle.ux_parts.specs.Ordered.{IsOrdered}

-- the row of a graph, counted from 1
abbrev pub row_in : List (List (Option ℕ)) → ℕ → List (Option ℕ)
row_in rows zero = []
row_in rows (suc g) = get_or rows g []

-- the number that the rows have at a state of a graph
abbrev pub number_in : List (List (Option ℕ)) → (g state : ℕ) → Option ℕ
number_in rows g state = get_or (row_in rows g) state None

-- the number of the part that begins at a state of a graph, where one does
abbrev pub number_of : Parts → (g state : ℕ) → Option ℕ
number_of parts g state = number_in parts.numbers g state

-- the part of this number is there, and begins at this state of this graph
pub record IsPartAt (parts : Parts) (number g state : ℕ) : Type 0 where
  pub part : Part
  pub found : slice_get parts.list number ≡ Some part
  pub graph : part.graph ≡ g
  pub first : part.first ≡ state

-- a part begins at the state
abbrev pub Begins : Parts → (g state : ℕ) → Type 0
Begins parts g state = (number : ℕ) × (number_of parts g state ≡ Some number)

-- the states into which the body of the part is closed
abbrev pub closing_in : Option Part → List ℕ
closing_in None = []
closing_in (Some part) = part.closing

abbrev pub closing_at : Parts → Option ℕ → List ℕ
closing_at parts None = []
closing_at parts (Some number) = closing_in (slice_get parts.list number)

-- those of the part that begins at a state of a graph
abbrev pub closing_of : Parts → (g state : ℕ) → List ℕ
closing_of parts g state = closing_at parts (number_of parts g state)

-- the body that begins at the state is closed into one state, which is told
pub record TellsClosing (net : List NetGraph) (g state : ℕ) (closing : List ℕ) : Type 0 where
  pub target : ℕ
  pub told : closing ≡ target ∷ []
  pub closed : IsClosedInto net g state target

-- the negative context that opens into the state has a part, which tells where it is closed
abbrev pub IsNegativePart : List NetGraph → Parts → (g state : ℕ) → Type 0
IsNegativePart net parts g state =
    Begins parts g state × TellsClosing net g state (closing_of parts g state)

-- what a context opens is a part
abbrev pub Opens : List NetGraph → Parts → (g to : ℕ) → Label → Type 0
Opens net parts g to Positive = Begins parts g to
Opens net parts g to Negative = IsNegativePart net parts g to
Opens net parts g to label = Unit {0}

-- where a body is closed, as a list
abbrev pub closing_list : Option ℕ → List ℕ
closing_list None = []
closing_list (Some target) = target ∷ []

-- The part of this number is the one that the number at its first state names, and it is closed where
-- the net tells it: into no state, where the net tells none.
pub record IsNamed (net : List NetGraph) (parts : Parts) (number : ℕ) (part : Part) : Type 0 where
  pub at_first : number_of parts part.graph part.first ≡ Some number
  pub closing : part.closing ≡ closing_list (closing_told net part.graph part.first)

-- The parts of a net, in an order in which they can be searched: each after those that it enters with
-- nothing taken. Ranks of the states tell that order, and levels of the parts how deep negative
-- contexts nest.
pub record ArePartsOf (net : List NetGraph) (parts : Parts) : Type 0 where
  -- each graph is a part, and so is each context
  pub graphs : (g : ℕ) → 1 ≤ g → g ≤ length net → Begins parts g 0
  pub contexts : (g n : ℕ) (state : State) (edge : Edge) →
      slice_get (states_of net g) n ≡ Some state → Contains state.edges edge →
      Opens net parts g edge.target edge.label
  -- the number at a state is that of the part which begins there
  pub numbers : (g state number : ℕ) → number_of parts g state ≡ Some number →
      IsPartAt parts number g state
  -- and each part of the list is the one that its state's number names
  pub named : (number : ℕ) (part : Part) → slice_get parts.list number ≡ Some part →
      IsNamed net parts number part
  -- parts stand by rank
  pub rank : (g state : ℕ) → ℕ
  pub sorted : (u v : ℕ) (p q : Part) → slice_get parts.list u ≡ Some p →
      slice_get parts.list v ≡ Some q → rank p.graph p.first < rank q.graph q.first → u < v
  pub ordered : IsOrdered (net_grammar net) rank
  pub level : (g state : ℕ) → ℕ
  pub levels : HasLevels (net_grammar net) level parts.levels
