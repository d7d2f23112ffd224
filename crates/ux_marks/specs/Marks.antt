-- The rule of the marks `$<` and `$>`: the words of the main graph lie between them, and no other
-- graph has a mark. This project's own rule. Public: the crate's public contracts speak of it.
use Rattle.std.specs.Prelude.{◌≡◌, ◌≢◌, ◌⊎◌, ⊤, ℕ, ◌<◌, Bool, true, false, ◌||◌, ◌&&◌, not, List, [], ◌∷◌, Contains, Some, codes, if◌then◌else◌, slice_get}
use Rattle.std.specs.List.{list_any}
use Rattle.std.specs.Str.{bytes_eq}
use Rattle.ux_net.specs.declared.label.Label.{Label}
use Rattle.ux_net.specs.declared.label.Label.TheVariants.{Begin, Empty, End}
use Rattle.ux_net.specs.declared.net_graph.NetGraph.{NetGraph}
use Rattle.ux_net.specs.declared.state.Edge.{Edge}
use Rattle.ux_net.specs.declared.state.State.{State}
use Rattle.ux_net.specs.Nets.{graph_at, states_of}
use Rattle.ux_marks.specs.declared.error.MorphError.{MorphError}
use Rattle.ux_marks.specs.declared.error.MorphError.TheVariants.{BadMarks, BadOutput, NoMemory}
use Rattle.ux_marks.specs.declared.stage.Stage.{Stage}
use Rattle.ux_marks.specs.declared.stage.Stage.TheVariants.{Before, Inside, Behind}

-- `$<`, which begins a variable of that name
abbrev pub is_opening : Label → Bool
is_opening (Begin name) = bytes_eq name (codes "<")
is_opening other = false

-- `$>`, which ends it
abbrev pub is_closing : Label → Bool
is_closing (End name) = bytes_eq name (codes "<")
is_closing other = false

abbrev pub is_mark : Label → Bool
is_mark label = is_opening label || is_closing label

-- the stage of a chain after one more label
abbrev pub after : Stage → Label → Stage
after Before label = if is_opening label then Inside else Before
after Inside label = if is_closing label then Behind else Inside
after Behind label = Behind

module _ (states : List State) where
  -- an edge leaves the state of this number
  pub record Leaves (n : ℕ) (edge : Edge) : Type 0 where
    pub state : State
    pub found : slice_get states n ≡ Some state
    pub inside : Contains state.edges edge

  -- a chain of edges from the start that is in the stage ends at the state
  pub data Meets : Stage → ℕ → Type 0 where
    start : Meets Before 0
    along : {stage : Stage} {n : ℕ} (edge : Edge) → Meets stage n → Leaves n edge →
        Meets (after stage edge.label) edge.target

abbrev pub is_empty_label : Label → Bool
is_empty_label Empty = true
is_empty_label other = false

abbrev pub is_nothing : {A : Type 0} → List A → Bool
is_nothing [] = true
is_nothing (x ∷ xs) = false

-- the empty word without output
abbrev pub is_silent : Edge → Bool
is_silent edge = is_empty_label edge.label && is_nothing edge.output

-- what may leave a state that is met before the marks
abbrev pub may_stand_before : Edge → Bool
may_stand_before edge = is_opening edge.label || is_silent edge

-- a state that is met in the stage, final or not, is bad by its edges
abbrev pub is_bad_there : Stage → (is_final : Bool) → List Edge → Bool
is_bad_there Before is_final edges =
    is_final || list_any (λ (edge : Edge). not (may_stand_before edge)) edges
is_bad_there Inside is_final edges =
    is_final || list_any (λ (edge : Edge). is_opening edge.label) edges
is_bad_there Behind is_final edges = list_any (λ (edge : Edge). not (is_silent edge)) edges

-- one of the edges is a mark
abbrev pub has_mark : List Edge → Bool
has_mark edges = list_any (λ (edge : Edge). is_mark edge.label) edges

-- the state of the main graph is met in the stage, and bad there
pub record IsBadIn (states : List State) (n : ℕ) (stage : Stage) : Type 0 where
  pub state : State
  pub found : slice_get states n ≡ Some state
  pub met : Meets states stage n
  pub bad : is_bad_there stage state.is_final state.edges ≡ true

-- the state has a mark
pub record HasMarkAt (states : List State) (n : ℕ) : Type 0 where
  pub state : State
  pub found : slice_get states n ≡ Some state
  pub bad : has_mark state.edges ≡ true

-- the state of the graph of this number, of which the first is the main graph, is bad
abbrev pub IsBadState : List NetGraph → (g n : ℕ) → Type 0
IsBadState net g n =
    ((g ≡ 1) × ((stage : Stage) × IsBadIn (states_of net g) n stage))
    ⊎ ((g ≢ 1) × HasMarkAt (states_of net g) n)

-- no state is bad
abbrev pub KeepsMarks : List NetGraph → Type 0
KeepsMarks net = (g n : ℕ) → IsBadState net g n → ⊥

-- the least bad state of the first graph that has one
pub record IsFirstBad (net : List NetGraph) (g n : ℕ) : Type 0 where
  pub bad : IsBadState net g n
  pub graph : (h m : ℕ) → h < g → IsBadState net h m → ⊥
  pub state : (m : ℕ) → m < n → IsBadState net g m → ⊥

-- the name of a graph
pub record IsNameOf (net : List NetGraph) (g : ℕ) (name : List ℕ) : Type 0 where
  pub graph : NetGraph
  pub found : graph_at net g ≡ Some graph
  pub same : name ≡ graph.name

-- why a grammar isn't matched inside words; want of memory may come at any time
abbrev pub Refuses : List NetGraph → MorphError → Type 0
Refuses net (BadMarks name node) = (g : ℕ) × IsFirstBad net g node × IsNameOf net g name
Refuses net (BadOutput token) = ⊥
Refuses net NoMemory = ⊤
