-- The graphs of a grammar: which files are read in which order, what each must be, and why a grammar
-- is refused. This file carries the crate's public meaning.
use Rattle.std.specs.Prelude.{◌≡◌, ◌≢◌, ◌⊎◌, ℕ, ◌<◌, ◌≤◌, Bool, true, false, List, []}
use Rattle.ux_plan.specs.Plans.{Format, Plan, Tells, decoded, gives, grows, reads, refusing, said_as, tests, then}
use Rattle.ux_reasons.specs.declared.reason.Reason.{Reason}
use Rattle.ux_reasons.specs.declared.reason.Reason.TheVariants.{Decode, Fst2, Grf, Net, TooManyGraphs}
use Rattle.ux_grf.specs.declared.graph.GraphKind.{GraphKind}
use Rattle.ux_grf.specs.declared.graph.GraphKind.TheVariants.{Morphological, Plain}
use Rattle.ux_grf.specs.File as grf
use Rattle.ux_grf.specs.declared.error.GrfError.{GrfError}
use Rattle.ux_grf.specs.declared.error.GrfError.TheVariants as grf_error
use Rattle.ux_grf.specs.declared.graph.Graph.{Graph}
use Rattle.ux_boxes.specs.Boxes.{Drawn}
use Rattle.ux_compile.specs.Refusing as net
use Rattle.ux_compile.specs.Refusing.{IsCompilable}
use Rattle.ux_boxes.specs.declared.error.NetError.{NetError}
use Rattle.ux_boxes.specs.declared.error.NetError.TheVariants as net_error
use Rattle.ux_net.specs.StateGraphs.{state_grammar}
use Rattle.ux_net.specs.declared.state_graph.StateGraph.{StateGraph}
use Rattle.ux_admission.specs.SoundGrammar.{IsSoundGrammar}
use Rattle.ux_state_places.specs.RefusingStates.{RefusesStates}
use Rattle.ux_fst2.specs.Reading as fst2
use Rattle.ux_fst2.specs.declared.error.Fst2Error.{Fst2Error}
use Rattle.ux_alphabet.specs.Letters.{Letters}
use Rattle.ux_grammars.specs.Naming.{file_of, is_compiled, named_file, next_name}
use Rattle.ux_grammars.specs.Sources.{Source, of_boxes, of_states}

-- the most graphs that a grammar may have
abbrev pub MOST_GRAPHS : ℕ
MOST_GRAPHS = 65535

-- one more than there may be: its file is read, and refused
abbrev pub MOST_READS : ℕ
MOST_READS = 65536

-- the text draws no graph of the kind
pub record IsNoGraph (kind : GraphKind) (text : List ℕ) (error : GrfError) : Type 0 where
  pub refuses : grf.Refuses kind text error
  pub not_memory : error ≢ grf_error.NoMemory

-- the file that a refusal of the graphs names: that of the graph at which it stands
abbrev pub NamesFile : (word : List ℕ) → NetError → (file : List ℕ) → Type 0
NamesFile word (net_error.BadMask name node place) file = file ≡ named_file word name
NamesFile word (net_error.ContextClose name node) file = file ≡ named_file word name
NamesFile word (net_error.NegativeRecursion name) file = file ≡ named_file word name
NamesFile word (net_error.EmptyLoop name node) file = file ≡ named_file word name
NamesFile word (net_error.LeftRecursion name node) file = file ≡ named_file word name
NamesFile word (net_error.MissingGraph name) file = ⊥
NamesFile word net_error.NoMemory file = ⊥

-- files whose text draws a graph of the kind
abbrev pub drawing_of : GraphKind → Format Reason Graph
drawing_of kind = decoded Decode (said_as Grf (grf.IsGraphOf kind) (IsNoGraph kind))

-- those that are found in the tokens of a text
abbrev pub drawing_format : Format Reason Graph
drawing_format = drawing_of Plain

-- the file of the graph of this name after so many others: one more than there may be is refused
-- whatever it holds
abbrev pub graph_format : GraphKind → (count : ℕ) (name : List ℕ) → Format Reason Drawn
graph_format kind count name = record {
  Is = λ file graph. (count < MOST_GRAPHS) × (graph.name ≡ name)
      × (drawing_of kind).Is file (record { boxes = graph.boxes });
  Refuses = λ file reason. ((count < MOST_GRAPHS) × (drawing_of kind).Refuses file reason)
      ⊎ ((MOST_GRAPHS ≤ count) × (reason ≡ TooManyGraphs));
  IsTooLarge = λ file. ⊥;
}

-- the graphs after those that were read
abbrev pub graphs_from : GraphKind → (word : List ℕ) → ℕ → List Drawn → Plan Reason (List Drawn)
graphs_from kind word most graphs =
    grows (next_name word) (file_of word) (graph_format kind) most graphs

-- the graphs of the kind, of the grammar whose main graph's file the word names
abbrev pub graphs_plan : GraphKind → (word : List ℕ) → Plan Reason (List Drawn)
graphs_plan kind word = graphs_from kind word MOST_READS []

-- the graphs are all read, and are not compiled: the file of the graph at fault is named
abbrev pub RefusesGrammar : (word : List ℕ) → Letters → List Drawn → (file : List ℕ) → Reason →
    Type 0
RefusesGrammar word letters graphs file reason =
    Tells Net (λ error. net.Refuses letters graphs error × NamesFile word error file) reason

-- the drawn graphs of the kind, of a grammar that has a meaning
abbrev pub kind_plan : GraphKind → (word : List ℕ) → Letters → Plan Reason (List Drawn)
kind_plan kind word letters =
    then (graphs_plan kind word) (λ graphs.
    tests (IsCompilable letters graphs) (refusing (RefusesGrammar word letters graphs))
    (gives graphs))

-- those that are found in the tokens of a text
abbrev pub drawn_plan : (word : List ℕ) → Letters → Plan Reason (List Drawn)
drawn_plan word letters = kind_plan Plain word letters

-- those that are found inside a word
abbrev pub marked_plan : (word : List ℕ) → Letters → Plan Reason (List Drawn)
marked_plan word letters = kind_plan Morphological word letters

-- the drawn graphs of a grammar as a grammar of boxes
abbrev pub boxes_plan : (word : List ℕ) → Letters → Plan Reason Source
boxes_plan word letters =
    then (drawn_plan word letters) (λ graphs.
    gives (of_boxes graphs))

-- the text says no graphs of states
abbrev pub IsNoFst2 : (text : List ℕ) → Fst2Error → Type 0
IsNoFst2 text error = fst2.Refuses text error

-- files whose text says graphs of states
abbrev pub fst2_format : Format Reason (List StateGraph)
fst2_format = decoded Decode (said_as Fst2 fst2.SaysGraphs IsNoFst2)

-- the graphs of states are read, and have no meaning: their file is named
abbrev pub RefusesCompiled : (word : List ℕ) → List StateGraph → (file : List ℕ) → Reason →
    Type 0
RefusesCompiled word graphs file reason =
    (file ≡ word) × Tells Net (λ error. RefusesStates graphs error × (error ≢ net_error.NoMemory))
    reason

-- a compiled grammar that has a meaning
abbrev pub states_plan : (word : List ℕ) → Plan Reason Source
states_plan word =
    reads word fst2_format (λ graphs.
    tests (IsSoundGrammar (state_grammar graphs)) (refusing (RefusesCompiled word graphs))
    (gives (of_states graphs)))

-- the second of two plans, or the first where this is so
abbrev pub plan_by : {R A : Type 0} → Bool → (so other : Plan R A) → Plan R A
plan_by true so other = so
plan_by false so other = other

-- a grammar that has a meaning: a compiled one where the word ends so
abbrev pub grammar_plan : (word : List ℕ) → Letters → Plan Reason Source
grammar_plan word letters =
    plan_by (is_compiled word) (states_plan word) (boxes_plan word letters)
