-- What answers the words of a text, and which word is refused. Public, through `Morpho`.
use Rattle.std.specs.Prelude.{◌≡◌, ◌↔◌, ℕ, ◌<◌, List, ◌++◌, Contains, Some, codes, slice_get}
use Rattle.std.specs.Cmp.Lexicographic.{slice_cmp}
use Rattle.std.specs.List.{flat_map}
use Rattle.std.specs.List.Sorted.{IsStrictlySortedBy}
use Rattle.std.specs.Ordering.{nat_cmp}
use Rattle.ux_marks.specs.declared.error.MorphError.TheVariants.{BadOutput}
use Rattle.ux_reasons.specs.declared.reason.Reason.{Reason}
use Rattle.ux_reasons.specs.declared.reason.Reason.TheVariants.{Morph}
use Rattle.ux_tokens.specs.declared.kind.Kind.TheVariants.{Word}
use Rattle.ux_tokens.specs.Tokens.{Token}

-- a line, and a line feed
abbrev pub line_with_feed : List ℕ → List ℕ
line_with_feed line = line ++ codes "\n"

module _ (tokens : List Token) where
  -- the word stands at the place
  pub record IsWordAt (place : ℕ) (word : List ℕ) : Type 0 where
    pub token : Token
    pub at : slice_get tokens place ≡ Some token
    pub kind : token.kind ≡ Word
    pub is : token.text ≡ word

  -- it is one of the text
  abbrev pub IsWordOf : (word : List ℕ) → Type 0
  IsWordOf word = (place : ℕ) × IsWordAt place word

  -- the text is the lines of all words, by bytes, each once
  pub record IsFileOfWords (IsLine : (word line : List ℕ) → Type 0) (text : List ℕ) : Type 0 where
    pub lines : List (List ℕ)
    pub exactly : (line : List ℕ) → Contains lines line
        ↔ ((word : List ℕ) × IsWordOf word × IsLine word line)
    pub ordered : IsStrictlySortedBy (slice_cmp nat_cmp) lines
    pub is : text ≡ flat_map line_with_feed lines

  -- no word is bad
  abbrev pub NoneIsBad : (IsBad : (word : List ℕ) → Type 0) → Type 0
  NoneIsBad IsBad = (word : List ℕ) → IsWordOf word → IsBad word → ⊥

  -- the word is bad, and none before it is
  pub record IsFirstBad (IsBad : (word : List ℕ) → Type 0) (word : List ℕ) : Type 0 where
    pub place : ℕ
    pub at : IsWordAt place word
    pub bad : IsBad word
    pub before : (k : ℕ) (other : List ℕ) → k < place → IsWordAt k other → IsBad other → ⊥

  -- the file of the main graph is refused for the first word that is bad
  abbrev pub RefusesWords : (IsBad : (word : List ℕ) → Type 0) → (graph file : List ℕ) → Reason →
      Type 0
  RefusesWords IsBad graph file reason = (word : List ℕ) × IsFirstBad IsBad word
      × (file ≡ graph) × (reason ≡ Morph (BadOutput word))
