-- What is made up is never refused: its texts say one alphabet, one dictionary and one grammar, which
-- has a meaning.
use Rattle.std.proofs.Common.{◌≡◌, ◌≢◌, ◌∙◌, Bool, List, ap, refl, subst, sym}
use Rattle.ux_alphabet.specs.File as alphabet
use Rattle.ux_alphabet.specs.Letters.{Letters, letters_of}
use Rattle.ux_alphabet.specs.declared.error.AlphabetError.{AlphabetError}
use Rattle.ux_alphabet.specs.declared.line.Line.{Line}
use Rattle.ux_alphabet.proofs.FileLemmas.{lines_are_unique, lines_not_refused}
use Rattle.ux_dela.specs.Files as dela
use Rattle.ux_dela.specs.declared.entry.Entry.{Entry}
use Rattle.ux_dela.specs.declared.error.DelaError.{DelaError}
use Rattle.ux_dela.proofs.UniqueLaws.{entries_are_unique}
use Rattle.ux_dict.specs.Content.{IsContent}
use Rattle.ux_dict.specs.FileContent.{IsFileContent}
use Rattle.ux_dict.proofs.ContentLemmas.{IsContent-only}
use Rattle.ux_dict.proofs.ReadLemmas.{content_not_refused}
use Rattle.ux_grammars.proofs.GraphRefusals.{drawn_once}
use Rattle.ux_grf.specs.declared.graph.GraphKind.TheVariants.{Plain}
use Rattle.ux_grf.specs.declared.graph.Graph.{Graph}
use Rattle.ux_boxes.specs.Boxes.{Drawn}
use Rattle.ux_compile.specs.Refusing as net
use Rattle.ux_compile.specs.Refusing.{IsCompilable}
use Rattle.ux_boxes.specs.declared.error.NetError.{NetError}
use Rattle.ux_boxes.specs.declared.error.NetError.TheVariants as net_error
use Rattle.ux_compile.proofs.RefusingLemmas.{compilable_not_refused}
use Rattle.ux_cmd_bench.specs.Bench.{ALPHABET, AP, AreGraphs, AreLetters, AreMade, DICTIONARY, Made, NP, grammar_of}
use Rattle.ux_cmd_bench.proofs.ContentSaid.{CONTENT, content_said, entries_in_order}
use Rattle.ux_cmd_bench.proofs.EntriesSaid.{ENTRIES, entries_said}
use Rattle.ux_cmd_bench.proofs.GraphsDrawn.{ap_drawn, ap_graph, np_drawn, np_graph}
use Rattle.ux_cmd_bench.proofs.LettersSaid.{LINES, letters_said}
use Rattle.ux_cmd_bench.proofs.PhrasesCompile.{phrases, phrases_compilable}

-- THE TEXTS SAY ONE THING

-- what they say
abbrev pub MADE : Made
MADE = record { letters = letters_of LINES; content = CONTENT; graphs = phrases }

pub are_made : AreMade MADE
are_made = record {
  letters = record { lines = letters_said; words = refl };
  content = content_said;
  graphs = record {
    np = np_graph;
    ap = ap_graph;
    draws_np = np_drawn;
    draws_ap = ap_drawn;
    are = refl;
  };
  compilable = phrases_compilable (letters_of LINES);
}

-- the letters
letters_once : (letters : Letters) → AreLetters letters → letters ≡ MADE.letters
letters_once letters are =
    let make = λ (lines : List Line) (single : Bool). (let made : Letters =
    record { lines = lines; single = single } in made) in
    ap (λ (single : Bool). make letters.lines single) are.words
    ∙ ap letters_of (lines_are_unique ALPHABET letters.lines LINES are.lines letters_said)

-- the content of the dictionary
content_once : (content : List Entry) → IsFileContent DICTIONARY content → content ≡ CONTENT
content_once content are =
    let same = entries_are_unique DICTIONARY are.entries ENTRIES are.are entries_said in
    IsContent-only ENTRIES content CONTENT
    (subst (λ (entries : List Entry). IsContent entries content) same are.is) entries_in_order

-- the graphs
pub graphs_once : (graphs : List Drawn) → AreGraphs graphs → graphs ≡ phrases
graphs_once graphs are =
    are.are
    ∙ (ap (λ (np : Graph). grammar_of np are.ap)
    (drawn_once Plain NP are.np np_graph are.draws_np np_drawn)
    ∙ ap (λ (ap : Graph). grammar_of np_graph ap)
    (drawn_once Plain AP are.ap ap_graph are.draws_ap ap_drawn))

-- and nothing else
pub made_once : (made : Made) → AreMade made → made ≡ MADE
made_once made are =
    let make = λ (letters : Letters) (content : List Entry) (graphs : List Drawn).
    (let all : Made = record { letters = letters; content = content; graphs = graphs } in all) in
    ap (λ (letters : Letters). make letters made.content made.graphs)
    (letters_once made.letters are.letters)
    ∙ (ap (λ (content : List Entry). make MADE.letters content made.graphs)
    (content_once made.content are.content)
    ∙ ap (λ (graphs : List Drawn). make MADE.letters CONTENT graphs)
    (graphs_once made.graphs are.graphs))

-- NONE OF THEM IS REFUSED

pub letters_accepted : (error : AlphabetError) → alphabet.Refuses ALPHABET error → ⊥
letters_accepted error refuses = lines_not_refused ALPHABET LINES error letters_said refuses

pub content_accepted : (error : DelaError) → dela.Refuses DICTIONARY error → ⊥
content_accepted error refuses = content_not_refused DICTIONARY CONTENT content_said error refuses

pub grammar_accepted : (letters : Letters) (graphs : List Drawn) (error : NetError) →
    AreGraphs graphs → error ≢ net_error.NoMemory → net.Refuses letters graphs error → ⊥
grammar_accepted letters graphs error are other refuses =
    let same = sym (graphs_once graphs are) in
    let compilable = subst (IsCompilable letters) same (phrases_compilable letters) in
    other (compilable_not_refused letters graphs error compilable refuses)
