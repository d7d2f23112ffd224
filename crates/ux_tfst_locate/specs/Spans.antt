-- Where a grammar is found in the automata of sentences. Public: the crate's public contracts speak
-- of it.
use Rattle.std.specs.Prelude.{◌≡◌, ◌↔◌, ◌⊎◌, ℕ, ◌<◌, List, AllPairs, Contains}
use Rattle.ux_alphabet.specs.Letters.{Letters}
use Rattle.ux_meaning.specs.Meaning.{Der}
use Rattle.ux_net.specs.Words.{Grammar}
use Rattle.ux_outputs.specs.declared.event.Event.{Event}
use Rattle.ux_sentence.specs.declared.sentence.Link.{Link}
use Rattle.ux_sentence.specs.declared.sentence.Sentence.{Sentence}
use Rattle.ux_sentence.specs.Paths.{IsPath, last_of}
use Rattle.ux_tfst_locate.specs.declared.span.Span.{Span}
use Rattle.ux_tfst_locate.specs.Inputs.{sentence_input}

-- links lead one after the other from a state to a state
abbrev pub Leads : List Link → (from to : ℕ) → Type 0
Leads links from to = (path : List Link) × IsPath links from to path

-- one span stands before another: by its sentence, then by where it begins, then by where it ends
abbrev pub Precedes : Span → Span → Type 0
Precedes span other = (span.sentence < other.sentence) ⊎ ((span.sentence ≡ other.sentence)
    × ((span.from < other.from) ⊎ ((span.from ≡ other.from) × (span.to < other.to))))

module _ (letters : Letters) (grammar : Grammar) where
  -- The main graph derives readings along links from a state to a state, and these links lie on a path
  -- of the sentence.
  pub record IsSpan (sentence : Sentence) (from to : ℕ) : Type 0 where
    pub some : from < to
    pub derived : (events : List Event)
        × Der (sentence_input letters sentence.links) grammar 1 from to events
    pub reached : Leads sentence.links 0 from
    pub leads : Leads sentence.links to (last_of sentence)

  -- the span is one of a sentence of these
  abbrev pub IsSpanIn : List Sentence → Span → Type 0
  IsSpanIn sentences span = (sentence : Sentence) × Contains sentences sentence
      × (sentence.number ≡ span.sentence) × IsSpan sentence span.from span.to

  -- exactly the spans of these sentences, in order, each once
  pub record AreSpans (sentences : List Sentence) (spans : List Span) : Type 0 where
    pub ascend : AllPairs Precedes spans
    pub exact : (span : Span) → Contains spans span ↔ IsSpanIn sentences span
