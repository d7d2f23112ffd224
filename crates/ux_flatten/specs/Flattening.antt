-- Which net is the flat one of a grammar to a depth, what it derives, and when there is none. The
-- manual, on flattening a grammar. Public: the crate's public contracts speak of it.
use Rattle.std.specs.Prelude.{◌≡◌, ◌↔◌, ◌⊎◌, ℕ, ◌<◌, List, [], ◌∷◌, All, Any, Bool, None, IsTrue, length, map}
use Rattle.ux_alphabet.specs.Letters.{Letters}
use Rattle.ux_tokens.specs.Tokens.{Token, IsTokenText}
use Rattle.ux_lexical_tables.specs.Accepting.{Accepts}
use Rattle.ux_lexical_tables.specs.Tables.{Tables}
use Rattle.ux_net.specs.declared.net_graph.NetGraph.{NetGraph}
use Rattle.ux_net.specs.declared.state.State.{State}
use Rattle.ux_net.specs.declared.state_graph.StateGraph.{StateGraph}
use Rattle.ux_net.specs.Nets.{net_grammar}
use Rattle.ux_net.specs.StateGraphs.{state_grammar}
use Rattle.ux_net.specs.Whole.{told_graph}
use Rattle.ux_boxes.specs.Refusing.{IsFirstAmong}
use Rattle.ux_state_places.specs.RefusingStates.{names_told}
use Rattle.ux_outputs.specs.declared.event.Event.{Event}
use Rattle.ux_meaning.specs.Inputs.{Input}
use Rattle.ux_meaning.specs.Meaning.{Der}
use Rattle.ux_meaning.specs.Texts.{text_input}
use Rattle.ux_flatten.specs.declared.error.FlattenError.{FlattenError}
use Rattle.ux_flatten.specs.declared.error.FlattenError.TheVariants.{TooBig, NegativeCut, NoMemory}
use Rattle.ux_flatten.specs.Copies.{copy, flat_graph, size}
use Rattle.ux_flatten.specs.Cuts.{HasWord, IsNegativeCut, LeavesOutNothing}
use Rattle.ux_flatten.specs.Depths.{DerTo}

-- the most states of a flat graph, and the most edges of a state
abbrev pub MOST_STATES : ℕ
MOST_STATES = 1000000

abbrev pub MOST_EDGES : ℕ
MOST_EDGES = 4294967295

-- the graphs of a net with all their states, as a file tells them
abbrev pub told : List NetGraph → List StateGraph
told net = map told_graph net

-- it is told which graphs have a word
abbrev pub TellsWords : List StateGraph → (has_word : ℕ → Bool) → Type 0
TellsWords graphs has_word = (h : ℕ) → IsTrue (has_word h) ↔ HasWord (state_grammar graphs) h

-- the graph is the flat one of these to the depth
pub record IsFlatGraph (graphs : List StateGraph) (depth : ℕ) (flat : StateGraph) : Type 0 where
  pub has_word : ℕ → Bool
  pub tells : TellsWords graphs has_word
  pub is : flat ≡ flat_graph graphs has_word depth

-- the net has this graph alone, with exactly its states
abbrev pub IsFlatNet : List StateGraph → (depth : ℕ) → List NetGraph → Type 0
IsFlatNet graphs depth net =
    (flat : StateGraph) × IsFlatGraph graphs depth flat × (told net ≡ flat ∷ [])

-- the flat graph has too many states, or one of them too many edges
pub record IsTooBig (graphs : List StateGraph) (depth : ℕ) : Type 0 where
  pub has_word : ℕ → Bool
  pub tells : TellsWords graphs has_word
  pub big : (MOST_STATES < size graphs has_word depth 1)
      ⊎ Any (λ (state : State). MOST_EDGES < length state.edges) (copy graphs has_word depth 1 0 None)

-- why there is no flat net: the tests in their order, of a cut with its first graph and least state
abbrev pub RefusesFlat : List StateGraph → (depth : ℕ) → FlattenError → Type 0
RefusesFlat graphs depth TooBig = IsTooBig graphs depth
RefusesFlat graphs depth (NegativeCut name node) = (IsTooBig graphs depth → ⊥)
    × IsFirstAmong (names_told graphs) (IsNegativeCut (state_grammar graphs) depth) name node
RefusesFlat graphs depth NoMemory = Unit {0}

-- there is one: neither test refuses the graphs
pub record IsFlattened (graphs : List StateGraph) (depth : ℕ) : Type 0 where
  pub not_too_big : IsTooBig graphs depth → ⊥
  pub no_cut : (g node : ℕ) → IsNegativeCut (state_grammar graphs) depth g node → ⊥

-- What the flat net derives over an input: exactly what the grammar derives to the depth. Each such
-- derivation is one of the grammar, and where no call is left out each of the grammar is one.
pub record DerivesTo (input : Input) (graphs : List StateGraph) (depth : ℕ)
    (flat : List NetGraph) : Type 0 where
  pub to_depth : (i j : ℕ) (events : List Event) →
      Der input (net_grammar flat) 1 i j events
      ↔ DerTo input (state_grammar graphs) depth 1 i j events
  pub derived : (i j : ℕ) (events : List Event) →
      Der input (net_grammar flat) 1 i j events → Der input (state_grammar graphs) 1 i j events
  pub equal : LeavesOutNothing (state_grammar graphs) depth → (i j : ℕ) (events : List Event) →
      Der input (net_grammar flat) 1 i j events ↔ Der input (state_grammar graphs) 1 i j events

-- each token has a text of its kind
abbrev pub AreTokenTexts : Letters → List Token → Type 0
AreTokenTexts alphabet tokens = All (λ (token : Token). IsTokenText alphabet token.kind token.text) tokens

-- the same over every text, with every dictionary
abbrev pub DerivesOverTexts : List StateGraph → (depth : ℕ) → List NetGraph → Type 0
DerivesOverTexts graphs depth flat =
    (alphabet : Letters) (tokens : List Token) (tables : Tables) → AreTokenTexts alphabet tokens →
    DerivesTo (text_input alphabet tokens (Accepts alphabet tokens tables)) graphs depth flat
