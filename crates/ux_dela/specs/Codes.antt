-- The codes of a line: a grammatical code, semantic codes and inflection codes. The manual, on
-- DELAF lines. Public: the crate's public contracts speak of it.
use Rattle.std.specs.Prelude.{◌≡◌, ◌≢◌, ℕ, Bool, true, List, [], ◌∷◌, ◌++◌, length}
use Rattle.ux_dela.specs.Signs.{PLUS, COLON, is_code_sign, is_colon}
use Rattle.ux_dela.specs.Written.{Written, bare, protected, written, IsPart, all_behind}

-- a code isn't empty, and has no bare sign at which codes end
pub record IsCode (stops : ℕ → Bool) (code : List Written) : Type 0 where
  pub some : code ≢ []
  pub part : IsPart stops code

-- each is a code
abbrev pub AreCodes : (ℕ → Bool) → List (List Written) → Type 0
AreCodes stops [] = Unit {0}
AreCodes stops (code ∷ codes) = IsCode stops code × AreCodes stops codes

-- the codes of a line of forms; behind the first `:` a `+` is a character of a code
pub record IsCodeList (codes gram : List Written) (sem infl : List (List Written)) : Type 0 where
  pub whole : codes ≡ gram ++ (all_behind PLUS sem ++ all_behind COLON infl)
  pub is_gram : IsCode is_code_sign gram
  pub are_sem : AreCodes is_code_sign sem
  pub are_infl : AreCodes is_colon infl

-- no character of a code stands there
abbrev pub EndsCode : (ℕ → Bool) → List Written → Type 0
EndsCode stops [] = Unit {0}
EndsCode stops (bare b ∷ behind) = stops b ≡ true
EndsCode stops (protected b ∷ behind) = ⊥

-- the first empty code of a list should begin behind so many bytes
pub data IsEmptyAt : List Written → ℕ → Type 0 where
  no_gram : (behind : List Written) → EndsCode is_code_sign behind → IsEmptyAt behind 0
  no_sem : (front gram behind : List Written) (sem : List (List Written)) →
      IsCodeList front gram sem [] → EndsCode is_code_sign behind →
      IsEmptyAt (front ++ bare PLUS ∷ behind) (length (written (front ++ bare PLUS ∷ [])))
  no_infl : (front gram behind : List Written) (sem infl : List (List Written)) →
      IsCodeList front gram sem infl → EndsCode is_colon behind →
      IsEmptyAt (front ++ bare COLON ∷ behind) (length (written (front ++ bare COLON ∷ [])))
