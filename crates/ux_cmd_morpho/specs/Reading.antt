-- What the command `morpho` reads, in which order. Public, through `Morpho`.
use Rattle.std.specs.Prelude.{◌≡◌, ℕ, false, true, List}
use Rattle.ux_alphabet.specs.Letters.{Letters}
use Rattle.ux_apply.specs.declared.priority.Priority.{Priority}
use Rattle.ux_boxes.specs.Boxes.{Drawn}
use Rattle.ux_dela.specs.declared.entry.Entry.{Entry}
use Rattle.ux_dictionaries.specs.Dictionaries.{dictionary_format}
use Rattle.ux_grammars.specs.Graphs.{marked_plan}
use Rattle.ux_grammars.specs.Naming.{named_file}
use Rattle.ux_grammars.specs.Reading.{AreStatesOfBoxes}
use Rattle.ux_marks.specs.Marks.{KeepsMarks, Refuses}
use Rattle.ux_marks.specs.declared.error.MorphError.{MorphError}
use Rattle.ux_marks.specs.declared.error.MorphError.TheVariants.{BadMarks, BadOutput, NoMemory}
use Rattle.ux_net.specs.declared.net_graph.NetGraph.{NetGraph}
use Rattle.ux_plan.specs.Plans.{Plan, Tells, each, gives, reads, refusing, tests, then}
use Rattle.ux_plan.specs.declared.stop.Stop.{Stop}
use Rattle.ux_plan.specs.declared.stop.Stop.TheVariants.{TooLarge}
use Rattle.ux_reasons.specs.declared.reason.Reason.{Reason}
use Rattle.ux_reasons.specs.declared.reason.Reason.TheVariants.{Morph}
use Rattle.ux_texts.specs.Texts.{alphabet_format, text_format}
use Rattle.ux_tokens.specs.Reading.{HasTooManyTokens}
use Rattle.ux_tokens.specs.Tokens.{Token}
use Rattle.ux_cmd_morpho.specs.Answering.{IsWordOf}

-- what is read: the letters, of which the text makes words, the graphs of a grammar, the tokens of a
-- text, and the dictionaries that stand for parts of its words
pub record Analysed : Type 0 where
  pub letters : Letters
  pub graphs : List Drawn
  pub tokens : List Token
  pub dics : List (Priority × List Entry)

-- the same letters, each a word of its own: so are graphs and words cut
abbrev pub single_of : Letters → Letters
single_of letters = record { lines = letters.lines; single = true }

-- the file that a refusal of marks names: that of the graph with the bad state
abbrev pub NamesMarks : (word : List ℕ) → MorphError → (file : List ℕ) → Type 0
NamesMarks word (BadMarks name node) file = file ≡ named_file word name
NamesMarks word (BadOutput token) file = ⊥
NamesMarks word NoMemory file = ⊥

-- the marks of a net are refused: a file is named
abbrev pub RefusesNetMarks : (word : List ℕ) → List NetGraph → (file : List ℕ) → Reason → Type 0
RefusesNetMarks word net file reason =
    Tells Morph (λ error. Refuses net error × NamesMarks word error file) reason

-- the marks of the drawn graphs keep to their rule
pub record HasGoodMarks (letters : Letters) (graphs : List Drawn) : Type 0 where
  pub net : List NetGraph
  pub states : AreStatesOfBoxes letters graphs net
  pub keeps : KeepsMarks net

-- they don't
pub record RefusesMarks (word : List ℕ) (letters : Letters) (graphs : List Drawn) (file : List ℕ)
    (reason : Reason) : Type 0 where
  pub net : List NetGraph
  pub states : AreStatesOfBoxes letters graphs net
  pub refuses : RefusesNetMarks word net file reason

-- the drawn graphs of a grammar that has a meaning, and whose marks keep to their rule
abbrev pub marks_plan : (word : List ℕ) → Letters → Plan Reason (List Drawn)
marks_plan word letters =
    then (marked_plan word letters) (λ graphs.
    tests (HasGoodMarks letters graphs) (refusing (RefusesMarks word letters graphs))
    (gives graphs))

-- a word of the text has too many letters
abbrev pub HasLongWord : Letters → List Token → Type 0
HasLongWord letters tokens =
    (word : List ℕ) × IsWordOf tokens word × HasTooManyTokens letters word

-- the text of this name is then too large
abbrev pub StopsLong : (text : List ℕ) → Letters → List Token → Stop Reason → Type 0
StopsLong text letters tokens by = (by ≡ TooLarge text) × HasLongWord letters tokens

-- a text that is cut into words of these letters, none of which has too many
abbrev pub words_plan : (text : List ℕ) → (words letters : Letters) → Plan Reason (List Token)
words_plan text words letters =
    reads text (text_format words) (λ tokens.
    tests (HasLongWord letters tokens → ⊥) (StopsLong text letters tokens) (gives tokens))

-- the alphabet is read first, then the grammar, then the text, then the dictionaries
abbrev pub files_plan : (graph text alphabet : List ℕ) → (dics : List (List ℕ)) →
    Plan Reason Analysed
files_plan graph text alphabet dics =
    reads alphabet (alphabet_format false) (λ letters.
    then (marks_plan graph (single_of letters)) (λ graphs.
    then (words_plan text letters (single_of letters)) (λ tokens.
    then (each dictionary_format dics) (λ dics.
    gives (record { letters = letters; graphs = graphs; tokens = tokens; dics = dics })))))
