-- Lemmas by the nets of their classes: which lines their forms have, and which lemma is refused first.
-- Public, through `Inflect`.
use Rattle.std.specs.Prelude.{◌≡◌, ℕ, ◌<◌, List, ◌++◌, Some, codes, slice_get}
use Rattle.std.specs.List.{AllZip, flat_map}
use Rattle.ux_dela.specs.Printed.{printed}
use Rattle.ux_dela.specs.declared.entry.Entry.{Entry}
use Rattle.ux_dela.specs.declared.entry.Stem.{Stem}
use Rattle.ux_grammars.specs.Naming.{callee_file, named_file}
use Rattle.ux_inflect.specs.Inflected.{AreInflected}
use Rattle.ux_inflect.specs.Refusing.{IsAccepted, Refuses}
use Rattle.ux_inflect.specs.declared.error.InflectError.{InflectError}
use Rattle.ux_inflect.specs.declared.error.InflectError.TheVariants.{Cyclic, BadItem, StackEnd, BadCodes, NoMemory}
use Rattle.ux_net.specs.declared.net_graph.NetGraph.{NetGraph}
use Rattle.ux_plan.specs.Plans.{Tells}
use Rattle.ux_reasons.specs.declared.reason.Reason.{Reason}
use Rattle.ux_reasons.specs.declared.reason.Reason.TheVariants.{Inflect}

-- the file that a refusal of a lemma names: that of the graph at fault, or of its class
abbrev pub NamesFile : (word class : List ℕ) → InflectError → (file : List ℕ) → Type 0
NamesFile word class (Cyclic name) file = file ≡ named_file (callee_file word class) name
NamesFile word class (BadItem name node) file = file ≡ named_file (callee_file word class) name
NamesFile word class (StackEnd path) file = file ≡ callee_file word class
NamesFile word class (BadCodes path) file = file ≡ callee_file word class
NamesFile word class NoMemory file = ⊥

-- the line of each entry
abbrev pub line_of : Entry → List ℕ
line_of entry = printed entry ++ codes "\n"

abbrev pub lines_of : List Entry → List ℕ
lines_of entries = flat_map line_of entries

-- Which nets a class has.
module _ (IsNetOf : (class : List ℕ) → List NetGraph → Type 0) where
  -- the lemma has a form with codes for each word of its class's graph
  pub record IsInflectable (stem : Stem) : Type 0 where
    pub net : List NetGraph
    pub of_class : IsNetOf stem.class net
    pub accepted : IsAccepted stem net

  -- the entries are those of the lemma
  pub record HasForms (stem : Stem) (entries : List Entry) : Type 0 where
    pub net : List NetGraph
    pub of_class : IsNetOf stem.class net
    pub are : AreInflected stem net entries

  -- the lemma isn't inflected, for this reason, which names a file
  pub record RefusesStem (word : List ℕ) (stem : Stem) (file : List ℕ) (error : InflectError) :
      Type 0 where
    pub net : List NetGraph
    pub of_class : IsNetOf stem.class net
    pub refuses : Refuses stem net error
    pub names : NamesFile word stem.class error file

  -- the first of the lemmas that isn't inflected, and why
  pub record IsFirstRefused (word : List ℕ) (stems : List Stem) (file : List ℕ)
      (error : InflectError) : Type 0 where
    pub place : ℕ
    pub stem : Stem
    pub at : slice_get stems place ≡ Some stem
    pub before : (k : ℕ) (other : Stem) → k < place → slice_get stems k ≡ Some other →
        IsInflectable other
    pub refused : RefusesStem word stem file error

  abbrev pub RefusesStems : (word : List ℕ) → List Stem → (file : List ℕ) → Reason → Type 0
  RefusesStems word stems file reason =
      Tells Inflect (IsFirstRefused word stems file) reason

  -- the text is the lines of the forms of each lemma, lemma by lemma
  pub record AreForms (stems : List Stem) (text : List ℕ) : Type 0 where
    pub each : List (List Entry)
    pub are : AllZip HasForms stems each
    pub is : text ≡ flat_map lines_of each
