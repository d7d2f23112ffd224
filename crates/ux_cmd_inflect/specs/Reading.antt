-- What the command `inflect` reads, in which order. Public, through `Inflect`.
use Rattle.std.specs.Prelude.{◌≡◌, ℕ, List, [], All, Some, map, slice_get}
use Rattle.ux_alphabet.specs.Letters.{Letters, letters_of}
use Rattle.ux_base.specs.Distinct.{each_once}
use Rattle.ux_boxes.specs.Boxes.{Drawn}
use Rattle.ux_dela.specs.Files.{AreStems, RefusesStems}
use Rattle.ux_dela.specs.declared.entry.Stem.{Stem}
use Rattle.ux_grammars.specs.Graphs.{drawn_plan}
use Rattle.ux_grammars.specs.Naming.{callee_file}
use Rattle.ux_grammars.specs.Reading.{AreStatesOfBoxes}
use Rattle.ux_net.specs.declared.net_graph.NetGraph.{NetGraph}
use Rattle.ux_plan.specs.Plans.{Format, Plan, all, decoded, gives, reads, refusing, said_as, tests, then}
use Rattle.ux_reasons.specs.declared.reason.Reason.{Reason}
use Rattle.ux_reasons.specs.declared.reason.Reason.TheVariants.{Decode, Dela}
use Rattle.ux_cmd_inflect.specs.Inflecting.{IsInflectable, RefusesStems as RefusesFirst}

-- In the graph of a class no character is a letter, so that each is an item by itself.
abbrev pub NO_LETTERS : Letters
NO_LETTERS = letters_of []

-- files of lemmas
abbrev pub stems_format : Format Reason (List Stem)
stems_format = decoded Decode (said_as Dela AreStems RefusesStems)

-- the classes of lemmas, each once, in the order of their first use
abbrev pub classes_of : List Stem → List (List ℕ)
classes_of stems = each_once (map (λ (stem : Stem). stem.class) stems)

-- the drawn graphs of a class, whose main graph stands in the folder of the lemmas
abbrev pub class_plan : (word class : List ℕ) → Plan Reason (List Drawn)
class_plan word class = drawn_plan (callee_file word class) NO_LETTERS

-- what is read: lemmas, and the drawn graphs of each of their classes
pub record Classed : Type 0 where
  pub stems : List Stem
  pub grammars : List (List Drawn)

-- the net has the states of the drawn graphs of this class
pub record IsNetOf (read : Classed) (class : List ℕ) (net : List NetGraph) : Type 0 where
  pub number : ℕ
  pub is_class : slice_get (classes_of read.stems) number ≡ Some class
  pub graphs : List Drawn
  pub drawn : slice_get read.grammars number ≡ Some graphs
  pub states : AreStatesOfBoxes NO_LETTERS graphs net

-- each lemma can be inflected by the net of its class
abbrev pub AreInflectable : Classed → Type 0
AreInflectable read = All (IsInflectable (IsNetOf read)) read.stems

-- the first that can't be names a file
abbrev pub RefusesClassed : (word : List ℕ) → Classed → (file : List ℕ) → Reason → Type 0
RefusesClassed word read file reason = RefusesFirst (IsNetOf read) word read.stems file reason

-- the lemmas, then the graphs of each class, and then each lemma is inflected
abbrev pub inflect_plan : (word : List ℕ) → Plan Reason Classed
inflect_plan word =
    reads word stems_format (λ stems.
    then (all (class_plan word) (classes_of stems)) (λ grammars.
    tests (AreInflectable (record { stems = stems; grammars = grammars }))
    (refusing (RefusesClassed word (record { stems = stems; grammars = grammars })))
    (gives (record { stems = stems; grammars = grammars }))))
