-- Lines of forms: `form,lemma.codes` and a comment. The manual, on the DELAF format. Public: the
-- crate's public contracts speak of it.
use Rattle.std.specs.Prelude.{◌≡◌, ◌≢◌, ℕ, ◌+◌, Bool, ◌||◌, List, [], ◌∷◌, ◌++◌, if◌then◌else◌, length}
use Rattle.ux_dela.specs.Signs.{COMMA, DOT, SLASH, EQUALS, SPACE, HYPHEN, BACKSLASH, is_comma, is_dot, is_slash, is_equals}
use Rattle.ux_dela.specs.Written.{Written, bare, written, meant, meant_as, all_meant, IsPart, has_bare}
use Rattle.ux_dela.specs.Codes.{IsCodeList, IsEmptyAt}
use Rattle.ux_dela.specs.declared.entry.Entry.{Entry}
use Rattle.ux_dela.specs.declared.error.DelaError.{DelaError}
use Rattle.ux_dela.specs.declared.error.DelaError.TheVariants.{NoComma, NoDot, EmptyForm, EmptyCode, BadEscape, BadClass, NoMemory}

-- a line that says nothing: an empty one, or a comment
abbrev pub IsSkipped : List ℕ → Type 0
IsSkipped [] = Unit {0}
IsSkipped (b ∷ line) = b ≡ SLASH

-- a comment, which there need not be
abbrev pub IsComment : List ℕ → Type 0
IsComment [] = Unit {0}
IsComment (b ∷ comment) = b ≡ SLASH

-- the line's form, lemma and codes, and a comment behind them
pub record IsCut (line : List ℕ) (form lemma codes : List Written) (comment : List ℕ) : Type 0 where
  pub whole : line ≡ written (form ++ bare COMMA ∷ (lemma ++ bare DOT ∷ codes)) ++ comment
  pub is_form : IsPart is_comma form
  pub is_lemma : IsPart is_dot lemma
  pub are_codes : IsPart is_slash codes
  pub is_comment : IsComment comment

-- the parts of a line of forms
pub record DelafParts : Type 0 where
  pub form : List Written
  pub lemma : List Written
  pub gram : List Written
  pub sem : List (List Written)
  pub infl : List (List Written)
  pub codes : List Written
  pub comment : List ℕ

-- the line has these parts
pub record IsDelafLine (line : List ℕ) (p : DelafParts) : Type 0 where
  pub counts : IsSkipped line → ⊥
  pub cut : IsCut line p.form p.lemma p.codes p.comment
  pub some_form : p.form ≢ []
  pub list : IsCodeList p.codes p.gram p.sem p.infl

-- the lemma as it is written, or the form where it is empty
abbrev pub lemma_of : (form lemma : List Written) → List Written
lemma_of form [] = form
lemma_of form (character ∷ lemma) = character ∷ lemma

-- the entry of these parts, where each mark of form and lemma is this sign
abbrev pub entry_as : ℕ → DelafParts → Entry
entry_as sign p = record {
  form = meant_as sign p.form;
  lemma = meant_as sign (lemma_of p.form p.lemma);
  gram = meant p.gram;
  sem = all_meant p.sem;
  infl = all_meant p.infl;
}

-- a mark stands in form or lemma
abbrev pub has_mark : DelafParts → Bool
has_mark p = has_bare is_equals p.form || has_bare is_equals p.lemma

-- the entries of a line with these parts: two where there is a mark
abbrev pub entries_of : DelafParts → List Entry
entries_of p =
    if has_mark p then entry_as SPACE p ∷ (entry_as HYPHEN p ∷ [])
    else entry_as EQUALS p ∷ []

-- what a line says: nothing, or the entries of its parts
pub data DelafSays : List ℕ → List Entry → Type 0 where
  skipped : (line : List ℕ) → IsSkipped line → DelafSays line []
  entries : (line : List ℕ) (p : DelafParts) → IsDelafLine line p → DelafSays line (entries_of p)

-- the line ends in a backslash with no character behind it, outside the comment
pub data EndsInBackslash : List ℕ → Type 0 where
  in_form : (form : List Written) → IsPart is_comma form →
      EndsInBackslash (written form ++ BACKSLASH ∷ [])
  in_lemma : (form lemma : List Written) → IsPart is_comma form → IsPart is_dot lemma →
      EndsInBackslash (written (form ++ bare COMMA ∷ lemma) ++ BACKSLASH ∷ [])
  in_codes : (form lemma codes : List Written) →
      IsPart is_comma form → IsPart is_dot lemma → IsPart is_slash codes →
      EndsInBackslash
      (written (form ++ bare COMMA ∷ (lemma ++ bare DOT ∷ codes)) ++ BACKSLASH ∷ [])

-- the line has no comma that ends the form
pub record HasNoComma (line : List ℕ) : Type 0 where
  pub form : List Written
  pub whole : line ≡ written form
  pub is_form : IsPart is_comma form

-- the line has this form, and no dot that ends the lemma
pub record HasNoDot (line : List ℕ) (form : List Written) : Type 0 where
  pub lemma : List Written
  pub whole : line ≡ written (form ++ bare COMMA ∷ lemma)
  pub is_form : IsPart is_comma form
  pub is_lemma : IsPart is_dot lemma

-- the line has an empty form
pub data HasEmptyForm (line : List ℕ) : Type 0 where
  without_dot : HasNoDot line [] → HasEmptyForm line
  with_dot : (lemma codes : List Written) (comment : List ℕ) →
      IsCut line [] lemma codes comment → HasEmptyForm line

-- the line's first empty code should begin at the place
pub record HasEmptyCode (line : List ℕ) (place : ℕ) : Type 0 where
  pub form : List Written
  pub lemma : List Written
  pub codes : List Written
  pub comment : List ℕ
  pub cut : IsCut line form lemma codes comment
  pub some_form : form ≢ []
  pub behind : ℕ
  pub empty : IsEmptyAt codes behind
  pub is_place :
      place ≡ length (written (form ++ bare COMMA ∷ (lemma ++ bare DOT ∷ []))) + behind

-- what is wrong with a line: a line that has a fault says no entry
abbrev pub HasFault : List ℕ → ℕ → DelaError → Type 0
HasFault line number (NoComma n place) =
    (n ≡ number) × HasNoComma line × (place ≡ length line)
HasFault line number (NoDot n place) =
    (n ≡ number) × ((form : List Written) × (form ≢ []) × HasNoDot line form)
    × (place ≡ length line)
HasFault line number (EmptyForm n place) = (n ≡ number) × HasEmptyForm line × (place ≡ 0)
HasFault line number (EmptyCode n place) = (n ≡ number) × HasEmptyCode line place
HasFault line number (BadEscape n place) =
    (n ≡ number) × EndsInBackslash line × (place + 1 ≡ length line)
HasFault line number (BadClass n place) = ⊥
HasFault line number NoMemory = ⊥

-- why a line has no entries
pub record RefusesDelaf (line : List ℕ) (number : ℕ) (error : DelaError) : Type 0 where
  pub counts : IsSkipped line → ⊥
  pub fault : HasFault line number error
