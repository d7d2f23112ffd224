-- The files of the command, as they are kept. Inner: the crate's own functions alone speak of it.
use Rattle.std.specs.Prelude.{◌≡◌, ℕ, List, Option}
use Rattle.ux_alphabet.specs.Letters.{Letters}
use Rattle.ux_apply.specs.declared.priority.Priority.{Priority}
use Rattle.ux_base.specs.Outside.{Files as FilesTold}
use Rattle.ux_boxes.specs.Boxes.{Drawn}
use Rattle.ux_dela.specs.declared.entry.Entry.{Entry}
use Rattle.ux_dictionaries.specs.Dictionaries.{contents_of}
use Rattle.ux_grammars.specs.Reading.{Compiles}
use Rattle.ux_grammars.specs.Sources.{of_boxes}
use Rattle.ux_marks.specs.Marks.{KeepsMarks}
use Rattle.ux_morpho.specs.Analysers.{IsAnalyser}
use Rattle.ux_morpho.specs.declared.analyser.Analyser.{Analyser}
use Rattle.ux_morpho.specs.Analyses.{GivesBadLine, IsEntryLine}
use Rattle.ux_net.specs.Nets.{net_grammar}
use Rattle.ux_net.specs.declared.net_graph.NetGraph.{NetGraph}
use Rattle.ux_plan.specs.Plans.{Comes, Plan}
use Rattle.ux_reasons.specs.declared.reason.Reason.{Reason}
use Rattle.ux_tokens.specs.Tokens.{Token}
use Rattle.ux_cmd_morpho.specs.declared.files.Files.{Files}
use Rattle.ux_cmd_morpho.specs.Reading.{HasLongWord, files_plan, single_of}

-- the net is that of the drawn graphs to which the plan comes, and its marks keep to their rule
pub record HasMarkedNet (plan : Plan Reason (List Drawn)) (told : Option FilesTold)
    (letters : Letters) (net : List NetGraph) : Type 0 where
  pub graphs : List Drawn
  pub comes : Comes plan told graphs
  pub compiles : Compiles letters (of_boxes graphs) net

-- the files were read, and the net is that of the grammar
pub record AreFiles (graph text alphabet : List ℕ) (names : List (List ℕ)) (told : Option FilesTold)
    (single : Letters) (net : List NetGraph) (tokens : List Token)
    (dics : List (Priority × List Entry)) : Type 0 where
  pub letters : Letters
  pub graphs : List Drawn
  pub comes : Comes (files_plan graph text alphabet names) told
      (record { letters = letters; graphs = graphs; tokens = tokens; dics = dics })
  pub is_single : single ≡ single_of letters
  pub compiles : Compiles single (of_boxes graphs) net
  pub short : HasLongWord single tokens → ⊥

-- the line is one that the net gives to the word
abbrev pub IsLineIn : Files → (word line : List ℕ) → Type 0
IsLineIn files word line =
    IsEntryLine files.alphabet (contents_of files.dics.items) (net_grammar files.net) word line

-- the net gives a bad line to it
abbrev pub IsBadIn : Files → (word : List ℕ) → Type 0
IsBadIn files word =
    GivesBadLine files.alphabet (contents_of files.dics.items) (net_grammar files.net) word

-- the analyser is made of the net, for any token
pub record IsAnalyserOf (files : Files) (analyser : Analyser) : Type 0 where
  pub net_is : analyser.net.now ≡ files.net
  pub alphabet_is : analyser.alphabet.now ≡ files.alphabet
  pub ready : IsAnalyser analyser
