-- A file has one first line with an edge that doesn't fit, or none.
use Rattle.std.proofs.Common.{arith, ◌≡◌, ℕ, suc, ◌≤◌, ◌+◌, List, ◌∷◌, refl, length}
use Rattle.std.specs.Prelude.{All}
use Rattle.ux_fst2_file.specs.Fields.{MOST}
use Rattle.ux_fst2_file.specs.Labels.{FitsLabel, FitsEdge, FitsState, FitsGraph, LabelsFit, StopLabels, StopGraphLabels, StopsAtLabel, limits_of}
use Rattle.ux_fst2_file.specs.Labels.StopLabels.{this_state, later_state}
use Rattle.ux_fst2_file.specs.Labels.StopGraphLabels.{this_graph, later_graph}
use Rattle.ux_fst2_file.specs.Printed.{IsSmallLabel, IsSmallEdge}
use Rattle.ux_fst2_file.specs.declared.file.Fst2Label.{Fst2Label}
use Rattle.ux_fst2_file.specs.declared.file.Fst2Label.TheVariants.{Tag, Call}
use Rattle.ux_fst2_file.specs.declared.file.Fst2Edge.{Fst2Edge}
use Rattle.ux_fst2_file.specs.declared.file.Fst2State.{Fst2State}
use Rattle.ux_fst2_file.specs.declared.file.Fst2Graph.{Fst2Graph}
use Rattle.ux_fst2_file.specs.declared.file.Fst2File.{Fst2File}
use Rattle.ux_fst2_file.specs.declared.labels.Limits.{Limits}

all_first : {X : Type 0} (P : X → Type 0) (x : X) (xs : List X) → All P (x ∷ xs) → P x
all_first P x xs all = all 0 x (omega arith)

all_later : {X : Type 0} (P : X → Type 0) (x : X) (xs : List X) → All P (x ∷ xs) → All P xs
all_later P x xs all = λ k d lt. all (suc k) d (omega (arith, lt))

labels_stop_once : (limits : Limits) (number : ℕ) (states : List Fst2State) (one other : ℕ) →
    StopLabels limits number states one → StopLabels limits number states other → one ≡ other
labels_stop_once limits number states one other (this_state _ _ _ _) (this_state _ _ _ _) = refl
labels_stop_once limits number states one other (this_state _ _ _ bad)
    (later_state _ _ _ _ fits _) = absurd (bad fits)
labels_stop_once limits number states one other (later_state _ _ _ _ fits _)
    (this_state _ _ _ bad) = absurd (bad fits)
labels_stop_once limits number states one other (later_state _ _ _ later _ stops)
    (later_state _ _ _ _ _ likewise) =
    labels_stop_once limits (number + 1) later one other stops likewise

labels_no_stop : (limits : Limits) (number : ℕ) (states : List Fst2State) (stop : ℕ) →
    All (FitsState limits) states → StopLabels limits number states stop → ⊥
labels_no_stop limits number states stop fit (this_state _ state later bad) =
    bad (all_first (FitsState limits) state later fit)
labels_no_stop limits number states stop fit (later_state _ _ state later _ stops) =
    labels_no_stop limits (number + 1) later stop (all_later (FitsState limits) state later fit)
    stops

graph_labels_stop_once : (file : Fst2File) (number : ℕ) (graphs : List Fst2Graph) (one other : ℕ) →
    StopGraphLabels file number graphs one → StopGraphLabels file number graphs other → one ≡ other
graph_labels_stop_once file number graphs one other (this_graph _ _ graph _ stops)
    (this_graph _ _ _ _ likewise) =
    labels_stop_once (limits_of file graph) (number + 1) graph.states one other stops likewise
graph_labels_stop_once file number graphs one other (this_graph _ _ graph _ stops)
    (later_graph _ _ _ _ fit _) =
    absurd (labels_no_stop (limits_of file graph) (number + 1) graph.states one fit stops)
graph_labels_stop_once file number graphs one other (later_graph _ _ graph _ fit _)
    (this_graph _ _ _ _ stops) =
    absurd (labels_no_stop (limits_of file graph) (number + 1) graph.states other fit stops)
graph_labels_stop_once file number graphs one other (later_graph _ _ graph later _ stops)
    (later_graph _ _ _ _ _ likewise) =
    graph_labels_stop_once file (number + (length graph.states + 2)) later one other stops likewise

graph_labels_no_stop : (file : Fst2File) (number : ℕ) (graphs : List Fst2Graph) (stop : ℕ) →
    All (FitsGraph file) graphs → StopGraphLabels file number graphs stop → ⊥
graph_labels_no_stop file number graphs stop fit (this_graph _ _ graph later stops) =
    labels_no_stop (limits_of file graph) (number + 1) graph.states stop
    (all_first (FitsGraph file) graph later fit) stops
graph_labels_no_stop file number graphs stop fit (later_graph _ _ graph later _ stops) =
    graph_labels_no_stop file (number + (length graph.states + 2)) later stop
    (all_later (FitsGraph file) graph later fit) stops

-- a file has one such line
pub bad_label_once : (file : Fst2File) (one other : ℕ) → StopsAtLabel file one →
    StopsAtLabel file other → one ≡ other
bad_label_once file one other is also = graph_labels_stop_once file 2 file.graphs one other is also

-- and none where all labels fit
pub labels_fit_or_stop : (file : Fst2File) (line : ℕ) → LabelsFit file → StopsAtLabel file line → ⊥
labels_fit_or_stop file line fit stops = graph_labels_no_stop file 2 file.graphs line fit stops

-- the numbers of an edge that fits have 32 bits, where graphs and states are as few
fitting_label_is_small : (limits : Limits) (label : Fst2Label) → limits.tags ≤ MOST →
    limits.graphs ≤ MOST → FitsLabel limits label → IsSmallLabel label
fitting_label_is_small limits (Tag tag) few graphs fits = omega (arith, few, fits)
fitting_label_is_small limits (Call graph) few graphs fits = omega (arith, graphs, fits.1)

pub fitting_is_small : (file : Fst2File) (graph : Fst2Graph) (edge : Fst2Edge) →
    length file.graphs ≤ MOST → length graph.states ≤ MOST →
    FitsEdge (limits_of file graph) edge → IsSmallEdge edge
fitting_is_small file graph edge graphs states fits = (
  fitting_label_is_small (limits_of file graph) edge.label (omega arith) graphs fits.0,
  omega (arith, states, fits.1),
)
