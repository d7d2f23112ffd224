-- The automata of the sentences of a text, from the tables of its entries. The manual, on the text
-- automaton. Public: the crate's public contracts speak of it.
use Rattle.std.specs.Prelude.{◌≡◌, ◌⊎◌, ◌↔◌, ℕ, ◌+◌, ◌<◌, ◌≤◌, List, [], Some, Contains, length, slice_get}
use Rattle.ux_dela.specs.declared.entry.Entry.{Entry}
use Rattle.ux_tokens.specs.declared.kind.Kind.{Kind}
use Rattle.ux_tokens.specs.declared.kind.Kind.TheVariants as kind
use Rattle.ux_tokens.specs.Tokens.{Token}
use Rattle.ux_lexical_tables.specs.Tables.{Tables}
use Rattle.ux_sentence.specs.declared.sentence.Reading.{Reading}
use Rattle.ux_sentence.specs.declared.sentence.Reading.TheVariants.{Word, Raw}
use Rattle.ux_sentence.specs.declared.sentence.Link.{Link}
use Rattle.ux_sentence.specs.declared.sentence.Sentence.{Sentence}
use Rattle.ux_text_automaton.specs.declared.run.Run.{Run}
use Rattle.ux_text_automaton.specs.Order.{AreInOrder}
use Rattle.ux_text_automaton.specs.Runs.{AreRuns, state_at}

-- a token of this kind stands for itself where it has no simple entry
abbrev pub MayBeRaw : Kind → Type 0
MayBeRaw kind.Word = Unit {0}
MayBeRaw kind.Space = ⊥
MayBeRaw kind.Other = Unit {0}
MayBeRaw kind.Sentence = ⊥
MayBeRaw kind.Stop = ⊥
MayBeRaw kind.Tag = ⊥

module _ (tokens : List Token) (tables : Tables) where
  -- the token at the place has the simple entry
  pub record HasSimple (place : ℕ) (entry : Entry) : Type 0 where
    pub row : List Entry
    pub entries : slice_get tables.simple place ≡ Some row
    pub member : Contains row entry

  -- the tokens from the first to the last have the compound entry
  pub record HasCompound (first last : ℕ) (entry : Entry) : Type 0 where
    pub row : List (ℕ × Entry)
    pub entries : slice_get tables.compounds first ≡ Some row
    pub member : Contains row (last, entry)

  -- a word or another character with this text stands at the place and has no simple entry
  pub record IsUnread (place : ℕ) (text : List ℕ) : Type 0 where
    pub token : Token
    pub stands : slice_get tokens place ≡ Some token
    pub kind : MayBeRaw token.kind
    pub none : slice_get tables.simple place ≡ Some []
    pub text_is : text ≡ token.text

  -- the reading stands on the tokens from the first to the last: an entry of theirs, or the text of
  -- a token without one
  abbrev pub StandsOn : (first last : ℕ) → Reading → Type 0
  StandsOn first last (Word entry) =
      ((last ≡ first) × HasSimple first entry) ⊎ HasCompound first last entry
  StandsOn first last (Raw text) = (last ≡ first) × IsUnread first text

  module _ (run : Run) where
    -- the link has a reading that stands on tokens of the sentence, from the state before the first
    -- of them to the state after the last
    pub record IsLinkAt (first last : ℕ) (link : Link) : Type 0 where
      pub begins : run.first ≤ first
      pub ends : last < run.end
      pub stands : StandsOn first last link.reading
      pub from : link.from ≡ state_at tokens run.first first
      pub to : link.to ≡ state_at tokens run.first (last + 1)

    abbrev pub IsLink : Link → Type 0
    IsLink link = (first : ℕ) × (last : ℕ) × IsLinkAt first last link

    -- the links are those of the sentence, each once and in order
    pub record AreLinks (links : List Link) : Type 0 where
      pub exact : (link : Link) → Contains links link ↔ IsLink link
      pub in_order : AreInOrder links

    -- the sentence of this number: a state before each token other than a space and one behind all
    -- of them, and the links
    pub record IsSentenceOf (number : ℕ) (sentence : Sentence) : Type 0 where
      pub numbered : sentence.number ≡ number
      pub states : sentence.states ≡ state_at tokens run.first run.end + 1
      pub links : AreLinks sentence.links

  -- the sentences of the text, numbered from 1
  pub record AreSentences (sentences : List Sentence) : Type 0 where
    pub runs : List Run
    pub are_runs : AreRuns tokens runs
    pub each_run : length sentences ≡ length runs
    pub each : (place : ℕ) (run : Run) (sentence : Sentence) → slice_get runs place ≡ Some run →
        slice_get sentences place ≡ Some sentence → IsSentenceOf run (place + 1) sentence
