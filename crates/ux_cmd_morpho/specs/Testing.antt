-- The plan of the command: its files, and that each output for a word is a line of one entry. Public,
-- through `Morpho`.
use Rattle.std.specs.Prelude.{ℕ, List}
use Rattle.ux_grammars.specs.Sources.{grammar_of, of_boxes}
use Rattle.ux_morpho.specs.Analyses.{GivesBadLine, IsEntryLine}
use Rattle.ux_net.specs.Words.{Grammar}
use Rattle.ux_plan.specs.Plans.{Plan, gives, refusing, tests, then}
use Rattle.ux_reasons.specs.declared.reason.Reason.{Reason}
use Rattle.ux_cmd_morpho.specs.Answering.{NoneIsBad, RefusesWords}
use Rattle.ux_cmd_morpho.specs.Reading.{Analysed, files_plan, single_of}

-- the grammar that was read
abbrev pub grammar_in : Analysed → Grammar
grammar_in read = grammar_of (single_of read.letters) (of_boxes read.graphs)

-- the line is one that the grammar gives to the word
abbrev pub IsLineOfRead : Analysed → (word line : List ℕ) → Type 0
IsLineOfRead read word line =
    IsEntryLine (single_of read.letters) read.dics (grammar_in read) word line

-- the grammar gives a bad line to it
abbrev pub IsBadWord : Analysed → (word : List ℕ) → Type 0
IsBadWord read word = GivesBadLine (single_of read.letters) read.dics (grammar_in read) word

-- no word has a bad line, or else the main graph's file is refused
abbrev pub test_plan : (graph : List ℕ) → Analysed → Plan Reason Analysed
test_plan graph read =
    tests (NoneIsBad read.tokens (IsBadWord read))
    (refusing (RefusesWords read.tokens (IsBadWord read) graph)) (gives read)

-- the files, and then the test
abbrev pub morpho_plan : (graph text alphabet : List ℕ) → (dics : List (List ℕ)) →
    Plan Reason Analysed
morpho_plan graph text alphabet dics = then (files_plan graph text alphabet dics) (test_plan graph)
