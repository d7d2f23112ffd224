-- What a grammar says of a token in the morphological mode. The manual, on the morphological mode.
-- Public: the crate's public contracts speak of it.
use Rattle.std.specs.Prelude.{◌≡◌, ◌↔◌, ℕ, List, [], ◌∷◌, ◌++◌, Contains, Some, length}
use Rattle.std.specs.Cmp.Lexicographic.{slice_cmp}
use Rattle.std.specs.List.Sorted.{IsStrictlySortedBy}
use Rattle.std.specs.Ordering.{nat_cmp}
use Rattle.ux_alphabet.specs.Letters.{Letters}
use Rattle.ux_apply.specs.Applied.{AreApplied}
use Rattle.ux_apply.specs.declared.priority.Priority.{Priority}
use Rattle.ux_base.specs.declared.settings.Mode.TheVariants.{Replace}
use Rattle.ux_base.specs.declared.settings.NoVar.TheVariants.{Nothing}
use Rattle.ux_dela.specs.Delaf.{DelafSays}
use Rattle.ux_dela.specs.Printed.{printed, shielded_form}
use Rattle.ux_dela.specs.Signs.{COMMA}
use Rattle.ux_dela.specs.Written.{written}
use Rattle.ux_dela.specs.declared.entry.Entry.{Entry}
use Rattle.ux_lexical_tables.specs.Tables.{Tables}
use Rattle.ux_meaning.specs.Meaning.{Der}
use Rattle.ux_net.specs.Words.{Grammar}
use Rattle.ux_outputs.specs.declared.event.Event.{Event}
use Rattle.ux_outputs.specs.declared.hit.Hit.{Hit}
use Rattle.ux_outputs.specs.Rendering.{render}
use Rattle.ux_tokens.specs.Tokens.{AreTokens, Token}
use Rattle.ux_walk.specs.Settings.{applied_text}

-- from the first letter on the events put this out in the place of the letters
pub record RendersAs (letters : List Token) (events : List Event) (output : List ℕ) : Type 0 where
  pub hit : Hit
  pub rendered : render letters Replace Nothing 0 events ≡ Some hit
  pub is : output ≡ hit.text

-- the main graph takes all the letters, to which the entries apply, and puts this out in their place
pub record PutsFor (alphabet : Letters) (letters : List Token) (tables : Tables) (grammar : Grammar)
    (output : List ℕ) : Type 0 where
  pub events : List Event
  pub derived : Der (applied_text alphabet letters tables) grammar 1 0 (length letters) events
  pub renders : RendersAs letters events output

-- the form as a dictionary line has it
abbrev pub printed_form : List ℕ → List ℕ
printed_form token = written (shielded_form token)

-- the line of a token and what is put out for it
abbrev pub line_of : (token output : List ℕ) → List ℕ
line_of token output = printed_form token ++ COMMA ∷ output

-- it says this entry alone
abbrev pub SaysOne : (token output : List ℕ) → Entry → Type 0
SaysOne token output entry = DelafSays (line_of token output) (entry ∷ [])

-- the line is that of the entry that is said so
abbrev pub IsLineOf : (token output line : List ℕ) → Type 0
IsLineOf token output line =
    (entry : Entry) × SaysOne token output entry × (line ≡ printed entry)

module _ (alphabet : Letters) (dics : List (Priority × List Entry)) (grammar : Grammar)
    (token : List ℕ) where
  -- This is put out for the letters of the token, to which the dictionaries are applied.
  pub record PutsOut (output : List ℕ) : Type 0 where
    pub letters : List Token
    pub cut : AreTokens alphabet token letters
    pub tables : Tables
    pub applied : AreApplied alphabet dics letters tables
    pub puts : PutsFor alphabet letters tables grammar output

  -- the line of an entry that the grammar gives to the token
  abbrev pub IsEntryLine : List ℕ → Type 0
  IsEntryLine line = (output : List ℕ) × PutsOut output × IsLineOf token output line

  -- something is put out for it that isn't a line of one entry
  abbrev pub GivesBadLine : Type 0
  GivesBadLine = (output : List ℕ) × PutsOut output
      × ((entry : Entry) → SaysOne token output entry → ⊥)

  -- these are the lines of its entries, by bytes, each once
  pub record AreEntryLines (lines : List (List ℕ)) : Type 0 where
    pub exactly : (line : List ℕ) → Contains lines line ↔ IsEntryLine line
    pub ordered : IsStrictlySortedBy (slice_cmp nat_cmp) lines
