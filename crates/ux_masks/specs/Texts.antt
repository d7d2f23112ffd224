-- How masks are written. The manual, on lexical masks. Public: the crate's public contracts speak
-- of it.
use Rattle.std.specs.Prelude.{◌≡◌, ◌≢◌, ◌⊎◌, ℕ, ◌+◌, ◌<◌, true, List, [], ◌∷◌, ◌++◌, Option, Some, None, All, Contains, codes, length, take, encode_utf8_all}
use Rattle.std.specs.List.{flat_map}
use Rattle.std.specs.Str.{chars}
use Rattle.ux_dela.specs.Written.{Written, bare, protected, written, meant, all_meant, all_behind, IsPart}
use Rattle.ux_masks.specs.declared.error.MaskError.{MaskError}
use Rattle.ux_masks.specs.declared.error.MaskError.TheVariants.{BadMask, NoMemory}
use Rattle.ux_masks.specs.declared.lexical.Parts.{Parts}
use Rattle.ux_masks.specs.declared.mask.Mask.{Mask}
use Rattle.ux_masks.specs.declared.mask.Mask.TheVariants.{Word, NotWord, Lower, NotLower, Upper, NotUpper, First, NotFirst, Dic, NotDic, SDic, NotSDic, CDic, TDic, Nb, Token, Lexical, NotLexical}
use Rattle.ux_masks.specs.Signs.{COMMA, DOT, PLUS, TILDE, COLON, EXCLAMATION, is_sign, is_capital, is_code_character}

-- a name: not empty, each character bare or behind a backslash, and none of the signs bare
pub record IsName (name : List Written) : Type 0 where
  pub some : name ≢ []
  pub part : IsPart is_sign name

-- a bare character that a code of capital letters may have
abbrev pub IsCodeCharacter : Written → Type 0
IsCodeCharacter (bare b) = is_code_character b ≡ true
IsCodeCharacter (protected b) = ⊥

-- the name is taken for a code: letters from A to Z, digits and `_`, of which the first is a letter
-- from A to Z, and no backslash
abbrev pub IsCodeName : List Written → Type 0
IsCodeName [] = ⊥
IsCodeName (protected b ∷ name) = ⊥
IsCodeName (bare b ∷ name) = (is_capital b ≡ true) × All IsCodeCharacter name

-- what a lexical mask begins with
pub data Target : Type 0 where
  a_code : (name : List Written) → Target
  a_lemma : (name : List Written) → Target
  a_lemma_with : (lemma : List Written) (code : Option (List Written)) → Target
  a_form : (form : List Written) (lemma : Option (List Written)) → Target
  a_form_with : (form : List Written) (lemma : Option (List Written))
      (code : Option (List Written)) → Target

-- a code that an entry has to have, or must not have
pub data Asked : Type 0 where
  needed : List Written → Asked
  forbidden : List Written → Asked

-- a name that may be missing
abbrev pub IsNameIfAny : Option (List Written) → Type 0
IsNameIfAny None = Unit {0}
IsNameIfAny (Some name) = IsName name

-- each part is a name; one name alone is a code or a lemma, by its spelling
abbrev pub IsTarget : Target → Type 0
IsTarget (a_code name) = IsName name × IsCodeName name
IsTarget (a_lemma name) = IsName name × (IsCodeName name → ⊥)
IsTarget (a_lemma_with lemma code) = IsName lemma × IsNameIfAny code
IsTarget (a_form form lemma) = IsName form × IsNameIfAny lemma
IsTarget (a_form_with form lemma code) = IsName form × IsNameIfAny lemma × IsNameIfAny code

abbrev pub name_of : Asked → List Written
name_of (needed name) = name
name_of (forbidden name) = name

-- the characters of a name, if there is one
abbrev pub if_any : Option (List Written) → List Written
if_any None = []
if_any (Some name) = name

abbrev pub target_text : Target → List Written
target_text (a_code name) = name
target_text (a_lemma name) = name
target_text (a_lemma_with lemma code) = lemma ++ bare DOT ∷ if_any code
target_text (a_form form lemma) = form ++ bare COMMA ∷ if_any lemma
target_text (a_form_with form lemma code) =
    form ++ bare COMMA ∷ (if_any lemma ++ bare DOT ∷ if_any code)

abbrev pub asked_text : Asked → List Written
asked_text (needed name) = bare PLUS ∷ name
asked_text (forbidden name) = bare TILDE ∷ name

-- what a lexical mask is written of: a target, codes behind `+` and `~`, and alternatives behind `:`
pub record Body : Type 0 where
  pub target : Target
  pub asked : List Asked
  pub alternatives : List (List Written)

-- each part of the body is as it may be
pub record IsBody (body : Body) : Type 0 where
  pub target : IsTarget body.target
  pub asked : All (λ code. IsName (name_of code)) body.asked
  pub alternatives : All IsName body.alternatives

abbrev pub body_text : Body → List Written
body_text body = target_text body.target
    ++ (flat_map asked_text body.asked ++ all_behind COLON body.alternatives)

-- the code of a target, if it has one
abbrev pub codes_if_any : Option (List Written) → List (List ℕ)
codes_if_any None = []
codes_if_any (Some name) = meant name ∷ []

abbrev pub code_in : Target → List (List ℕ)
code_in (a_code name) = meant name ∷ []
code_in (a_lemma name) = []
code_in (a_lemma_with lemma code) = codes_if_any code
code_in (a_form form lemma) = []
code_in (a_form_with form lemma code) = codes_if_any code

-- an empty lemma behind a comma means the form
abbrev pub lemma_or : (form : List Written) → Option (List Written) → List ℕ
lemma_or form None = meant form
lemma_or form (Some lemma) = meant lemma

abbrev pub form_in : Target → Option (List ℕ)
form_in (a_code name) = None
form_in (a_lemma name) = None
form_in (a_lemma_with lemma code) = None
form_in (a_form form lemma) = Some (meant form)
form_in (a_form_with form lemma code) = Some (meant form)

abbrev pub lemma_in : Target → Option (List ℕ)
lemma_in (a_code name) = None
lemma_in (a_lemma name) = Some (meant name)
lemma_in (a_lemma_with lemma code) = Some (meant lemma)
lemma_in (a_form form lemma) = Some (lemma_or form lemma)
lemma_in (a_form_with form lemma code) = Some (lemma_or form lemma)

abbrev pub needed_in : Asked → List (List ℕ)
needed_in (needed name) = meant name ∷ []
needed_in (forbidden name) = []

abbrev pub forbidden_in : Asked → List (List ℕ)
forbidden_in (needed name) = []
forbidden_in (forbidden name) = meant name ∷ []

-- what the body asks of an entry
abbrev pub parts_of : Body → Parts
parts_of body = record {
  form = form_in body.target;
  lemma = lemma_in body.target;
  need = code_in body.target ++ flat_map needed_in body.asked;
  forbid = flat_map forbidden_in body.asked;
  infl = all_meant body.alternatives;
}

-- a name with a meaning of its own, and that meaning
pub data Names : (text : List ℕ) → Mask → Type 0 where
  word : Names (codes "WORD") Word
  mot : Names (codes "MOT") Word
  lower : Names (codes "LOWER") Lower
  min : Names (codes "MIN") Lower
  upper : Names (codes "UPPER") Upper
  maj : Names (codes "MAJ") Upper
  first : Names (codes "FIRST") First
  pre : Names (codes "PRE") First
  dic : Names (codes "DIC") Dic
  sdic : Names (codes "SDIC") SDic
  not_word : Names (codes "!WORD") NotWord
  not_mot : Names (codes "!MOT") NotWord
  not_lower : Names (codes "!LOWER") NotLower
  not_min : Names (codes "!MIN") NotLower
  not_upper : Names (codes "!UPPER") NotUpper
  not_maj : Names (codes "!MAJ") NotUpper
  not_first : Names (codes "!FIRST") NotFirst
  not_pre : Names (codes "!PRE") NotFirst
  not_dic : Names (codes "!DIC") NotDic
  not_sdic : Names (codes "!SDIC") NotSDic
  cdic : Names (codes "CDIC") CDic
  tdic : Names (codes "TDIC") TDic
  nb : Names (codes "NB") Nb
  token : Names (codes "TOKEN") Token

-- the texts that are refused whole: the empty word, and names that have no negation
abbrev pub refused_texts : List (List ℕ)
refused_texts = codes "E" ∷ codes "!E" ∷ codes "!CDIC" ∷ codes "!TDIC" ∷ codes "!NB"
    ∷ codes "!TOKEN" ∷ []

-- the text is one of the names, whatever it means
abbrev pub IsNamed : List ℕ → Type 0
IsNamed text = (mask : Mask) × Names text mask

-- the text is a body's, behind a `!` where the mask is negated
pub data IsLexicalText (text : List ℕ) : Mask → Type 0 where
  plain : (body : Body) → IsBody body → text ≡ written (body_text body) →
      IsLexicalText text (Lexical (parts_of body))
  negated : (body : Body) → IsBody body → text ≡ EXCLAMATION ∷ written (body_text body) →
      IsLexicalText text (NotLexical (parts_of body))

-- the text is of this mask: one of the names, or any other text of a lexical mask
pub data IsMaskText (text : List ℕ) (mask : Mask) : Type 0 where
  named : Names text mask → IsMaskText text mask
  lexical : (IsNamed text → ⊥) → (Contains refused_texts text → ⊥) → IsLexicalText text mask →
      IsMaskText text mask

-- some mask text begins with these characters
abbrev pub BeginsMask : List ℕ → Type 0
BeginsMask front = (rest : List ℕ) × (mask : Mask) × IsMaskText (front ++ rest) mask

-- the first characters of a text, so many, as bytes
abbrev pub front_of : List ℕ → ℕ → List ℕ
front_of text n = encode_utf8_all (take n (chars text))

-- The text is no mask text. The place is the first character with which no mask text goes on, or
-- the number of characters where some mask text goes on behind all of them.
pub record IsBadAt (text : List ℕ) (place : ℕ) : Type 0 where
  pub none : (mask : Mask) → IsMaskText text mask → ⊥
  pub begins : BeginsMask (front_of text place)
  pub stops : (place ≡ length (chars text))
      ⊎ ((place < length (chars text)) × (BeginsMask (front_of text (place + 1)) → ⊥))

-- why a text is refused
abbrev pub Refuses : List ℕ → MaskError → Type 0
Refuses text (BadMask place) = IsBadAt text place
Refuses text NoMemory = Unit {0}
