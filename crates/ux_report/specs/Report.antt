-- The report on the dictionaries that apply to a text. The manual, on applying dictionaries; that
-- the three parts stand in one file is this program's own. Public: the crate's public contracts
-- speak of it.
use Rattle.std.specs.Prelude.{◌≡◌, ◌↔◌, ℕ, ◌<◌, List, ◌++◌, Contains, Some, codes, slice_get}
use Rattle.std.specs.List.Sorted.{IsStrictlySortedBy}
use Rattle.std.specs.Ordering.{nat_cmp}
use Rattle.std.specs.Cmp.Lexicographic.{slice_cmp}
use Rattle.ux_alphabet.specs.Letters.{Letters}
use Rattle.ux_dela.specs.declared.entry.Entry.{Entry}
use Rattle.ux_dela.specs.Printed.{printed}
use Rattle.ux_tokens.specs.declared.kind.Kind.TheVariants.{Word}
use Rattle.ux_tokens.specs.Tokens.{Token}
use Rattle.ux_tokens.specs.Numbers.{different_texts}
use Rattle.ux_tokens.specs.TokenFile.{file_of}
use Rattle.ux_apply.specs.declared.priority.Priority.{Priority}
use Rattle.ux_lexical_tables.specs.Tables.{Tables}
use Rattle.ux_apply.specs.Applied.{AreApplied}

-- the tables are those of some dictionaries over the tokens, by some alphabet
abbrev pub AreTablesOf : List Token → Tables → Type 0
AreTablesOf tokens tables = (alphabet : Letters) × (dics : List (Priority × List Entry))
    × AreApplied alphabet dics tokens tables

-- the lines are the texts that are such lines, each once and in order of their bytes
pub record AreLinesOf (P : List ℕ → Type 0) (lines : List (List ℕ)) : Type 0 where
  pub ordered : IsStrictlySortedBy (slice_cmp nat_cmp) lines
  pub exact : (line : List ℕ) → Contains lines line ↔ P line

module _ (tokens : List Token) (tables : Tables) where
  -- the line is what is printed for a simple entry of some word
  pub record IsSimpleLine (line : List ℕ) : Type 0 where
    pub place : ℕ
    pub token : Token
    pub row : List Entry
    pub entry : Entry
    pub stands : slice_get tokens place ≡ Some token
    pub word : token.kind ≡ Word
    pub entries : slice_get tables.simple place ≡ Some row
    pub member : Contains row entry
    pub line_is : line ≡ printed entry

  -- the line is what is printed for a compound entry of some span of two or more tokens
  pub record IsCompoundLine (line : List ℕ) : Type 0 where
    pub first : ℕ
    pub last : ℕ
    pub row : List (ℕ × Entry)
    pub entry : Entry
    pub entries : slice_get tables.compounds first ≡ Some row
    pub member : Contains row (last, entry)
    pub longer : first < last
    pub line_is : line ≡ printed entry

  -- the line is the text of some unknown word
  pub record IsUnknownLine (line : List ℕ) : Type 0 where
    pub number : ℕ
    pub unknown : Contains tables.unknown number
    pub text : slice_get (different_texts tokens) number ≡ Some line

-- a section of the report: its name, how many lines it has, and then each of them
abbrev pub section : (name : List ℕ) (lines : List (List ℕ)) → List ℕ
section name lines = name ++ file_of lines

-- the report of these lines: simple entries, compound entries, unknown words
abbrev pub report_of : (simple compound unknown : List (List ℕ)) → List ℕ
report_of simple compound unknown = section (codes "#DLF ") simple
    ++ (section (codes "#DLC ") compound ++ section (codes "#ERR ") unknown)

-- the report has what the tables tell of the tokens
pub record IsReport (tokens : List Token) (tables : Tables) (report : List ℕ) : Type 0 where
  pub simple : List (List ℕ)
  pub compound : List (List ℕ)
  pub unknown : List (List ℕ)
  pub simple_lines : AreLinesOf (IsSimpleLine tokens tables) simple
  pub compound_lines : AreLinesOf (IsCompoundLine tokens tables) compound
  pub unknown_lines : AreLinesOf (IsUnknownLine tokens tables) unknown
  pub report_is : report ≡ report_of simple compound unknown
