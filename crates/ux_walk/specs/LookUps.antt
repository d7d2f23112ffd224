-- Which edges of a state may apply at a token, by its text, and the indexes that tell them. Inner,
-- but for `AreEnough`, of which crates above speak.
use Rattle.std.specs.Prelude.{◌≡◌, ℕ, List, ◌⊎◌, Some, slice_get, Contains}
use Rattle.ux_alphabet.specs.Letters.{Letters}
use Rattle.ux_net.specs.declared.label.Label.{Label}
use Rattle.ux_net.specs.declared.state.Edge.{Edge}
use Rattle.ux_net.specs.declared.state.State.{State}
use Rattle.ux_net.specs.declared.net_graph.NetGraph.{NetGraph}
use Rattle.ux_net.specs.Nets.{states_of}
use Rattle.ux_walk.specs.declared.config.Frame.{Frame}
use Rattle.ux_walk.specs.declared.edge_index.EdgeIndex.{EdgeIndex}
use Rattle.ux_walk.specs.declared.look_ups.LookUps.{LookUps}
use Rattle.ux_walk.specs.declared.words.Words.{Words}
use Rattle.ux_walk.specs.EdgeIndexes.{IsIndexOf}
use Rattle.ux_walk.specs.Literals.{AreReady, FitsText, IsLiteral}

-- a literal that fits no token of this text; any other label may apply
abbrev pub Refuses : Letters → Label → List ℕ → Type 0
Refuses alphabet label text = IsLiteral label × (FitsText alphabet label text → ⊥)

-- each edge stands at one of the places, or its label refuses the text
abbrev pub AreEnough : Letters → List ℕ → List Edge → List ℕ → Type 0
AreEnough alphabet text edges places = (n : ℕ) (edge : Edge) → slice_get edges n ≡ Some edge →
    Contains places n ⊎ Refuses alphabet edge.label text

-- the index is kept for the state
abbrev pub IsKept : LookUps → Frame → EdgeIndex → Type 0
IsKept look_ups state index = Contains look_ups.indexes.entries (state, index)

-- the words are those of the texts, and each index is that of its state's edges
pub record AreSound (alphabet : Letters) (net : List NetGraph) (texts : List (List ℕ))
    (look_ups : LookUps) : Type 0 where
  pub ready : (words : Words) → look_ups.words ≡ Some words → AreReady alphabet texts words
  pub indexes : (frame : Frame) (index : EdgeIndex) → IsKept look_ups frame index →
      (state : State) → slice_get (states_of net frame.graph) frame.state ≡ Some state →
      IsIndexOf alphabet texts state.edges index
