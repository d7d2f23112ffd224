-- The command `bench`: what it makes up, and what answers it. It reads no file. This file carries the
-- crate's public meaning.
use Rattle.std.specs.Prelude.{◌≡◌, ℕ, false, List, [], ◌∷◌, codes}
use Rattle.ux_alphabet.specs.File.{AreLines}
use Rattle.ux_alphabet.specs.Letters.{Letters}
use Rattle.ux_apply.specs.declared.priority.Priority.TheVariants.{Normal}
use Rattle.ux_dela.specs.declared.entry.Entry.{Entry}
use Rattle.ux_dict.specs.FileContent.{IsFileContent}
use Rattle.ux_grf.specs.declared.graph.GraphKind.TheVariants.{Plain}
use Rattle.ux_grf.specs.File.{IsGraphOf}
use Rattle.ux_grf.specs.declared.graph.Graph.{Graph}
use Rattle.ux_boxes.specs.Boxes.{Drawn, box_grammar}
use Rattle.ux_compile.specs.Refusing.{IsCompilable}
use Rattle.ux_cmd_bench.specs.Summaries.{IsSummary}

-- WHAT IS MADE UP, AS THE TEXTS OF FILES

abbrev pub ALPHABET : List ℕ
ALPHABET = codes "Aa\nBb\nCc\nDd\nEe\nFf\nGg\nHh\nIi\nJj\nKk\nLl\nMm\nNn\nOo\nPp\nQq\nRr\nSs\nTt\nUu\nVv\nWw\nXx\nYy\nZz\n"

abbrev pub DICTIONARY : List ℕ
DICTIONARY = codes "the,.DET\na,.DET\nold,.A\nsmall,.A\ncat,.N:s\ndog,.N:s\nsees,see.V:P3s\nsleeps,sleep.V:P3s\n"

-- a noun phrase: `<DET>` then `<N>`, or `<DET>` then `:AP` then `<N>`
abbrev pub NP : List ℕ
NP = codes "#Unigraph\n#\n5\n\"<E>\" 0 0 1 2\n\"\" 0 0 0\n\"<DET>\" 0 0 2 3 4\n\"<N>\" 0 0 1 1\n\":AP\" 0 0 1 3\n"

-- an adjective phrase: `<A>`, or `<A>` then `:AP`
abbrev pub AP : List ℕ
AP = codes "#Unigraph\n#\n4\n\"<E>\" 0 0 1 2\n\"\" 0 0 0\n\"<A>\" 0 0 2 1 3\n\":AP\" 0 0 1 1\n"

-- WHAT THE TEXTS SAY

-- the letters of the alphabet
pub record AreLetters (letters : Letters) : Type 0 where
  pub lines : AreLines ALPHABET letters.lines
  pub words : letters.single ≡ false

-- the graphs NP and AP as a grammar, of which NP is the main graph
abbrev pub grammar_of : (np ap : Graph) → List Drawn
grammar_of np ap = record { name = codes "NP"; boxes = np.boxes }
    ∷ record { name = codes "AP"; boxes = ap.boxes } ∷ []

-- they are drawn so
pub record AreGraphs (graphs : List Drawn) : Type 0 where
  pub np : Graph
  pub ap : Graph
  pub draws_np : IsGraphOf Plain NP np
  pub draws_ap : IsGraphOf Plain AP ap
  pub are : graphs ≡ grammar_of np ap

-- the letters, the content of the dictionary and the graphs of a grammar
pub record Made : Type 0 where
  pub letters : Letters
  pub content : List Entry
  pub graphs : List Drawn

-- the texts say these, and the grammar has a meaning
pub record AreMade (made : Made) : Type 0 where
  pub letters : AreLetters made.letters
  pub content : IsFileContent DICTIONARY made.content
  pub graphs : AreGraphs made.graphs
  pub compilable : IsCompilable made.letters made.graphs

-- WHAT ANSWERS THE COMMAND

-- the text tells of all hits of the phrases among n words
pub record IsSummaryOf (n : ℕ) (text : List ℕ) : Type 0 where
  pub made : Made
  pub are : AreMade made
  pub tells : IsSummary n made.letters ((Normal, made.content) ∷ [])
      (box_grammar made.letters made.graphs) text
