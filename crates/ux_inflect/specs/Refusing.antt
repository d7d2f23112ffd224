-- When a stem isn't inflected, and with which refusal. Public: the crate's public contracts speak of
-- it.
use Rattle.std.specs.Prelude.{◌≡◌, ℕ, ◌<◌, List, [], Some, None, slice_get, Contains, ◌⊎◌, ⊤}
use Rattle.ux_dela.specs.declared.entry.Stem.{Stem}
use Rattle.ux_grf.specs.declared.item.Piece.{Piece}
use Rattle.ux_grf.specs.declared.item.Piece.TheVariants.{Chars, Value}
use Rattle.ux_net.specs.declared.label.Label.{Label}
use Rattle.ux_net.specs.declared.label.Label.TheVariants.{Empty, CaseFolded, CaseExact, Call}
use Rattle.ux_net.specs.declared.net_graph.NetGraph.{NetGraph}
use Rattle.ux_net.specs.declared.state.Edge.{Edge}
use Rattle.ux_net.specs.declared.state.State.{State}
use Rattle.ux_net.specs.Nets.{graph_at, states_of}
use Rattle.ux_net.specs.Words.{Letter}
use Rattle.ux_inflect.specs.declared.error.InflectError.{InflectError}
use Rattle.ux_inflect.specs.declared.error.InflectError.TheVariants.{Cyclic, BadItem, StackEnd, BadCodes, NoMemory}
use Rattle.ux_inflect.specs.Strokes.{Cursor}
use Rattle.ux_inflect.specs.Whole.{IsWhole, input_of, output_of}
use Rattle.ux_inflect.specs.Inflected.{HasCodes, IsNotAfter, end_of}
use Rattle.ux_inflect.specs.Cyclic.{IsCyclic}

-- a label that neither reads nor calls
abbrev pub IsBadLabel : Label → Type 0
IsBadLabel Empty = ⊥
IsBadLabel (CaseFolded text) = ⊥
IsBadLabel (CaseExact text) = ⊥
IsBadLabel (Call h) = ⊥
IsBadLabel label = Unit {0}

-- the value of a variable
abbrev pub IsValue : Piece → Type 0
IsValue (Chars text) = ⊥
IsValue (Value name) = Unit {0}

-- an edge with such a label, or with a variable in its output
abbrev pub IsBadEdge : Edge → Type 0
IsBadEdge edge =
    IsBadLabel edge.label ⊎ ((part : Piece) × Contains edge.output part × IsValue part)

-- such an edge leaves the state
pub record IsBadState (net : List NetGraph) (g n : ℕ) : Type 0 where
  pub state : State
  pub found : slice_get (states_of net g) n ≡ Some state
  pub edge : Edge
  pub inside : Contains state.edges edge
  pub bad : IsBadEdge edge

-- the first such state of the first graph that has one
pub record IsFirstBad (net : List NetGraph) (g n : ℕ) : Type 0 where
  pub bad : IsBadState net g n
  pub graph : (h m : ℕ) → h < g → IsBadState net h m → ⊥
  pub state : (m : ℕ) → m < n → IsBadState net g m → ⊥

-- the first graph that has words without end
pub record IsFirstCyclic (net : List NetGraph) (g : ℕ) : Type 0 where
  pub cyclic : IsCyclic net g
  pub first : (h : ℕ) → h < g → IsCyclic net h → ⊥

-- the name of a graph
pub record IsNameOf (net : List NetGraph) (g : ℕ) (name : List ℕ) : Type 0 where
  pub graph : NetGraph
  pub found : graph_at net g ≡ Some graph
  pub same : name ≡ graph.name

-- a character of the word can't be done
abbrev pub IsStuck : Stem → List Letter → Type 0
IsStuck stem whole = end_of stem whole ≡ None

-- its output has no codes
abbrev pub IsUncoded : List Letter → Type 0
IsUncoded whole = (codes : List (List ℕ)) → HasCodes (output_of whole) codes → ⊥

-- the word leaves no form
abbrev pub IsFormless : Stem → List Letter → Type 0
IsFormless stem whole = (cursor : Cursor) × (end_of stem whole ≡ Some cursor) × (cursor.left ≡ [])

abbrev pub IsMiscoded : Stem → List Letter → Type 0
IsMiscoded stem whole = IsUncoded whole ⊎ IsFormless stem whole

-- The least text that such a word reads. Where words are ordered by what they read and then by what
-- they put out, it is the text of the first one.
pub record IsLeast (net : List NetGraph) (Is : List Letter → Type 0) (path : List ℕ) : Type 0 where
  pub whole : List Letter
  pub is_whole : IsWhole net whole
  pub is : Is whole
  pub text : path ≡ input_of whole
  pub least : (other : List Letter) → IsWhole net other → Is other → IsNotAfter path (input_of other)

-- no graph has words without end
abbrev pub IsAcyclic : List NetGraph → Type 0
IsAcyclic net = (g : ℕ) → IsCyclic net g → ⊥

-- and each edge reads, calls or does nothing
pub record IsClean (net : List NetGraph) : Type 0 where
  pub acyclic : IsAcyclic net
  pub clean : (g n : ℕ) → IsBadState net g n → ⊥

-- and each word can be done
pub record IsDoable (stem : Stem) (net : List NetGraph) : Type 0 where
  pub clean : IsClean net
  pub doable : (whole : List Letter) → IsWhole net whole → IsStuck stem whole → ⊥

-- and gives a form with codes: nothing is refused
pub record IsAccepted (stem : Stem) (net : List NetGraph) : Type 0 where
  pub doable : IsDoable stem net
  pub coded : (whole : List Letter) → IsWhole net whole → IsMiscoded stem whole → ⊥

-- when each refusal comes; want of memory may come at any time
abbrev pub Refuses : Stem → List NetGraph → InflectError → Type 0
Refuses stem net (Cyclic name) = (g : ℕ) × IsFirstCyclic net g × IsNameOf net g name
Refuses stem net (BadItem name node) =
    IsAcyclic net × ((g : ℕ) × IsFirstBad net g node × IsNameOf net g name)
Refuses stem net (StackEnd path) = IsClean net × IsLeast net (IsStuck stem) path
Refuses stem net (BadCodes path) = IsDoable stem net × IsLeast net (IsMiscoded stem) path
Refuses stem net NoMemory = ⊤
