-- The paths of a sentence in terms of dictionaries. The manual, on the text automaton and on applying
-- dictionaries. Public: the crate's law of paths speaks of it.
use Rattle.std.specs.Prelude.{◌≡◌, ◌⊎◌, ℕ, ◌<◌, List, [], Contains, IsSomeAnd, slice_get}
use Rattle.ux_alphabet.specs.Letters.{Letters}
use Rattle.ux_dela.specs.declared.entry.Entry.{Entry}
use Rattle.ux_tokens.specs.declared.kind.Kind.TheVariants as kind
use Rattle.ux_tokens.specs.Tokens.{Token, IsTag}
use Rattle.ux_lexical_tables.specs.Spans.{IsSpan, text_of}
use Rattle.ux_apply.specs.declared.priority.Priority.{Priority}
use Rattle.ux_apply.specs.Applying.{AreApplying}
use Rattle.ux_sentence.specs.declared.sentence.Reading.{Reading}
use Rattle.ux_sentence.specs.declared.sentence.Reading.TheVariants.{Word, Raw}
use Rattle.ux_text_automaton.specs.declared.run.Run.{Run}
use Rattle.ux_text_automaton.specs.SentencePaths.{IsPathOf}

module _ (alphabet : Letters) (dics : List (Priority × List Entry)) where
  -- the entry is one of those that apply to the text
  abbrev pub Applies : (text : List ℕ) → Entry → Type 0
  Applies text entry = (entries : List Entry) × AreApplying alphabet dics text entries
      × Contains entries entry

  -- a token has the entry: a word one that applies to its text, a tag its own
  abbrev pub IsEntryOf : Token → Entry → Type 0
  IsEntryOf token entry = ((token.kind ≡ kind.Word) × Applies token.text entry)
      ⊎ ((token.kind ≡ kind.Tag) × IsTag token.text entry)

  -- a token without an entry has its text: another character, or a word to which none applies
  abbrev pub IsRawOf : Token → (text : List ℕ) → Type 0
  IsRawOf token text = (text ≡ token.text) × ((token.kind ≡ kind.Other)
      ⊎ ((token.kind ≡ kind.Word) × AreApplying alphabet dics token.text []))

  module _ (tokens : List Token) where
    -- a span of two or more tokens has the entry
    pub record IsEntryOfSpan (first last : ℕ) (entry : Entry) : Type 0 where
      pub longer : first < last
      pub span : IsSpan tokens first last
      pub applies : Applies (text_of tokens first last) entry

    -- the reading is one of the tokens from the first to the last
    abbrev pub IsReadingOf : (first last : ℕ) → Reading → Type 0
    IsReadingOf first last (Word entry) =
        ((last ≡ first) × IsSomeAnd (slice_get tokens first) (λ token. IsEntryOf token entry))
        ⊎ IsEntryOfSpan first last entry
    IsReadingOf first last (Raw text) =
        (last ≡ first) × IsSomeAnd (slice_get tokens first) (λ token. IsRawOf token text)

-- the readings are a path of the sentence, by the dictionaries
abbrev pub IsSentencePath : Letters → List (Priority × List Entry) → List Token → Run →
    List Reading → Type 0
IsSentencePath alphabet dics tokens run readings =
    IsPathOf tokens (IsReadingOf alphabet dics tokens) run readings
