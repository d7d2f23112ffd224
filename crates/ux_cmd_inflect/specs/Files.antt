-- What the files of `inflect` are read as, and what is done with a lemma. Inner: the crate's own
-- functions alone speak of it.
use Rattle.std.specs.Prelude.{◌≡◌, ◌++◌, ℕ, List, Option, Some, slice_get}
use Rattle.std.specs.List.{AllZip}
use Rattle.ux_base.specs.Outside.{Files}
use Rattle.ux_boxes.specs.Boxes.{Drawn}
use Rattle.ux_dela.specs.declared.entry.Entry.{Entry}
use Rattle.ux_dela.specs.declared.entry.Stem.{Stem}
use Rattle.ux_grammars.specs.Reading.{Compiles}
use Rattle.ux_grammars.specs.Sources.{of_boxes}
use Rattle.ux_net.specs.declared.net_graph.NetGraph.{NetGraph}
use Rattle.ux_inflect.specs.Inflected.{AreInflected}
use Rattle.ux_inflect.specs.Refusing.{Refuses}
use Rattle.ux_plan.specs.Plans.{Comes, Tells, all}
use Rattle.ux_reasons.specs.declared.reason.Reason.{Reason}
use Rattle.ux_reasons.specs.declared.reason.Reason.TheVariants.{Inflect}
use Rattle.ux_cmd_inflect.specs.Inflecting.{NamesFile, lines_of}
use Rattle.ux_cmd_inflect.specs.Reading.{NO_LETTERS, class_plan}

-- the net is that of the drawn graphs
abbrev pub IsNetOfDrawn : List Drawn → List NetGraph → Type 0
IsNetOfDrawn graphs net = Compiles NO_LETTERS (of_boxes graphs) net

-- the files of the graphs of these classes draw what the nets are made of
pub record AreNets (word : List ℕ) (names : List (List ℕ)) (told : Option Files)
    (nets : List (List NetGraph)) : Type 0 where
  pub grammars : List (List Drawn)
  pub comes : Comes (all (class_plan word) names) told grammars
  pub made : AllZip IsNetOfDrawn grammars nets

-- the net of this number is that of the class of this number
pub record IsNetAt (names : List (List ℕ)) (nets : List (List NetGraph)) (class : List ℕ)
    (net : List NetGraph) : Type 0 where
  pub number : ℕ
  pub is_class : slice_get names number ≡ Some class
  pub is_net : slice_get nets number ≡ Some net

-- the lines of the lemma's forms stand behind the old text
pub record PutsForms (stem : Stem) (net : List NetGraph) (old new : List ℕ) : Type 0 where
  pub entries : List Entry
  pub are : AreInflected stem net entries
  pub is : new ≡ old ++ lines_of entries

-- the lemma isn't inflected by the net: a file is named
abbrev pub RefusesBy : (word : List ℕ) → Stem → List NetGraph → (file : List ℕ) → Reason → Type 0
RefusesBy word stem net file reason =
    Tells Inflect (λ error. Refuses stem net error × NamesFile word stem.class error file) reason
