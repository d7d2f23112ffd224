-- Lines of lemmas: `lemma,class`, semantic codes and a comment. The manual, on the DELAS format.
-- Public: the crate's public contracts speak of it.
use Rattle.std.specs.Prelude.{◌≡◌, ◌≢◌, ℕ, ◌+◌, true, List, [], ◌∷◌, ◌++◌, length}
use Rattle.std.specs.List.{list_all}
use Rattle.ux_dela.specs.Signs.{COMMA, PLUS, BACKSLASH, is_comma, is_slash, is_plus, is_upper, is_digit}
use Rattle.ux_dela.specs.Written.{Written, bare, written, meant, all_meant, IsPart, all_behind}
use Rattle.ux_dela.specs.Codes.{IsCode, AreCodes, EndsCode}
use Rattle.ux_dela.specs.Delaf.{IsSkipped, IsComment, HasNoComma}
use Rattle.ux_dela.specs.declared.entry.Stem.{Stem}
use Rattle.ux_dela.specs.declared.error.DelaError.{DelaError}
use Rattle.ux_dela.specs.declared.error.DelaError.TheVariants.{NoComma, NoDot, EmptyForm, EmptyCode, BadEscape, BadClass, NoMemory}

-- the line's lemma and codes, and a comment behind them
pub record IsStemCut (line : List ℕ) (lemma codes : List Written) (comment : List ℕ) : Type 0 where
  pub whole : line ≡ written (lemma ++ bare COMMA ∷ codes) ++ comment
  pub is_lemma : IsPart is_comma lemma
  pub are_codes : IsPart is_slash codes
  pub is_comment : IsComment comment

-- the codes of a line of lemmas
pub record IsStemList (codes class : List Written) (sem : List (List Written)) : Type 0 where
  pub whole : codes ≡ class ++ all_behind PLUS sem
  pub is_class : IsCode is_plus class
  pub are_sem : AreCodes is_plus sem

-- a class is its letters, of which there is one, and then digits
pub record IsClass (class letters : List ℕ) : Type 0 where
  pub digits : List ℕ
  pub whole : class ≡ letters ++ digits
  pub some : letters ≢ []
  pub are_letters : list_all is_upper letters ≡ true
  pub are_digits : list_all is_digit digits ≡ true

-- the stem that a line says
pub record IsDelasLine (line : List ℕ) (stem : Stem) : Type 0 where
  pub lemma : List Written
  pub codes : List Written
  pub class : List Written
  pub sem : List (List Written)
  pub comment : List ℕ
  pub counts : IsSkipped line → ⊥
  pub cut : IsStemCut line lemma codes comment
  pub some_lemma : lemma ≢ []
  pub list : IsStemList codes class sem
  pub is_class : IsClass (meant class) stem.gram
  pub is_lemma : stem.lemma ≡ meant lemma
  pub is_code : stem.class ≡ meant class
  pub is_sem : stem.sem ≡ all_meant sem

-- what a line says: nothing, or a stem
pub data DelasSays : List ℕ → List Stem → Type 0 where
  skipped : (line : List ℕ) → IsSkipped line → DelasSays line []
  stem : (line : List ℕ) (stem : Stem) → IsDelasLine line stem → DelasSays line (stem ∷ [])

-- the line ends in a backslash with no character behind it, outside the comment
pub data StemEndsInBackslash : List ℕ → Type 0 where
  in_lemma : (lemma : List Written) → IsPart is_comma lemma →
      StemEndsInBackslash (written lemma ++ BACKSLASH ∷ [])
  in_codes : (lemma codes : List Written) → IsPart is_comma lemma → IsPart is_slash codes →
      StemEndsInBackslash (written (lemma ++ bare COMMA ∷ codes) ++ BACKSLASH ∷ [])

-- the first empty code should begin behind so many bytes
pub data IsStemEmptyAt : List Written → ℕ → Type 0 where
  no_class : (behind : List Written) → EndsCode is_plus behind → IsStemEmptyAt behind 0
  no_sem : (front class behind : List Written) (sem : List (List Written)) →
      IsStemList front class sem → EndsCode is_plus behind →
      IsStemEmptyAt (front ++ bare PLUS ∷ behind) (length (written (front ++ bare PLUS ∷ [])))

-- the line's first empty code should begin at the place
pub record HasEmptyStemCode (line : List ℕ) (place : ℕ) : Type 0 where
  pub lemma : List Written
  pub codes : List Written
  pub comment : List ℕ
  pub cut : IsStemCut line lemma codes comment
  pub some_lemma : lemma ≢ []
  pub behind : ℕ
  pub empty : IsStemEmptyAt codes behind
  pub is_place : place ≡ length (written (lemma ++ bare COMMA ∷ [])) + behind

-- the line's code begins at the place and is no class
pub record HasBadClass (line : List ℕ) (place : ℕ) : Type 0 where
  pub lemma : List Written
  pub codes : List Written
  pub class : List Written
  pub sem : List (List Written)
  pub comment : List ℕ
  pub cut : IsStemCut line lemma codes comment
  pub some_lemma : lemma ≢ []
  pub list : IsStemList codes class sem
  pub no_class : (letters : List ℕ) → IsClass (meant class) letters → ⊥
  pub is_place : place ≡ length (written (lemma ++ bare COMMA ∷ []))

-- the line has an empty lemma
pub record HasEmptyLemma (line : List ℕ) : Type 0 where
  pub codes : List Written
  pub comment : List ℕ
  pub cut : IsStemCut line [] codes comment

-- what is wrong with a line
abbrev pub HasStemFault : List ℕ → ℕ → DelaError → Type 0
HasStemFault line number (NoComma n place) =
    (n ≡ number) × HasNoComma line × (place ≡ length line)
HasStemFault line number (NoDot n place) = ⊥
HasStemFault line number (EmptyForm n place) = (n ≡ number) × HasEmptyLemma line × (place ≡ 0)
HasStemFault line number (EmptyCode n place) = (n ≡ number) × HasEmptyStemCode line place
HasStemFault line number (BadEscape n place) =
    (n ≡ number) × StemEndsInBackslash line × (place + 1 ≡ length line)
HasStemFault line number (BadClass n place) = (n ≡ number) × HasBadClass line place
HasStemFault line number NoMemory = ⊥

-- why a line has no stem
pub record RefusesDelas (line : List ℕ) (number : ℕ) (error : DelaError) : Type 0 where
  pub counts : IsSkipped line → ⊥
  pub fault : HasStemFault line number error
