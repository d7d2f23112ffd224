-- What a search reads, in which order. Public, through `Locate`.
use Rattle.std.specs.Prelude.{ℕ, Bool, List, Option}
use Rattle.ux_base.specs.Outside.{Files}
use Rattle.ux_plan.specs.Plans.{Comes, Plan, each, gives, reads, then}
use Rattle.ux_reasons.specs.declared.reason.Reason.{Reason}
use Rattle.ux_tokens.specs.Tokens.{Token}
use Rattle.ux_apply.specs.declared.priority.Priority.{Priority}
use Rattle.ux_dela.specs.declared.entry.Entry.{Entry}
use Rattle.ux_dictionaries.specs.Dictionaries.{dictionary_format}
use Rattle.ux_net.specs.declared.net_graph.NetGraph.{NetGraph}
use Rattle.ux_grammars.specs.Graphs.{grammar_plan}
use Rattle.ux_grammars.specs.Reading.{Compiles}
use Rattle.ux_grammars.specs.Sources.{Source}
use Rattle.ux_alphabet.specs.Letters.{Letters}
use Rattle.ux_texts.specs.Texts.{alphabet_format, text_format}

-- what a search reads: the letters, a grammar, the tokens of a text, and the dictionaries that are
-- applied to it
pub record Searched : Type 0 where
  pub letters : Letters
  pub source : Source
  pub tokens : List Token
  pub dics : List (Priority × List Entry)

-- the alphabet is read first, then the grammar, then the text, then the dictionaries
abbrev pub search_plan : (graph text alphabet : List ℕ) (dics : List (List ℕ)) (chars : Bool) →
    Plan Reason Searched
search_plan graph text alphabet dics chars =
    reads alphabet (alphabet_format chars) (λ letters.
    then (grammar_plan graph letters) (λ source.
    reads text (text_format letters) (λ tokens.
    then (each dictionary_format dics) (λ dics.
    gives (record { letters = letters; source = source; tokens = tokens; dics = dics })))))

-- the files of a search are read: the net is that of the grammar
pub record AreFiles (plan : Plan Reason Searched) (told : Option Files) (letters : Letters)
    (net : List NetGraph) (tokens : List Token) (dics : List (Priority × List Entry)) : Type 0
  where
    pub source : Source
    pub comes : Comes plan told
        (record { letters = letters; source = source; tokens = tokens; dics = dics })
    pub compiles : Compiles letters source net
