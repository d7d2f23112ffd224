-- The fields of a line, its numbers, and what stands behind its first field. Public: the crate's
-- public contracts speak of it.
use Rattle.std.specs.Prelude.{◌≡◌, ℕ, ◌-◌, ◌==◌, ◌^◌, Bool, false, not, min, List, [], ◌∷◌, if◌then◌else◌}
use Rattle.std.specs.Str.Parse.{IsNumeral, digits_value}

abbrev pub SPACE : ℕ
SPACE = 32

-- a field begins the text
abbrev pub begins_with_field : List ℕ → Bool
begins_with_field [] = false
begins_with_field (b ∷ text) = not (b == SPACE)

-- one more character in front of the first field
abbrev pub widened : ℕ → List (List ℕ) → List (List ℕ)
widened b [] = (b ∷ []) ∷ []
widened b (field ∷ fields) = (b ∷ field) ∷ fields

-- the fields of a text, which one or more spaces part; spaces at its ends don't count
abbrev pub fields_of : List ℕ → List (List ℕ)
fields_of [] = []
fields_of (b ∷ text) =
    if b == SPACE then fields_of text
    else if begins_with_field text then widened b (fields_of text)
    else (b ∷ []) ∷ fields_of text

-- what stands before the first space
abbrev pub before_space : List ℕ → List ℕ
before_space [] = []
before_space (b ∷ text) = if b == SPACE then [] else b ∷ before_space text

-- the text from its first space on
abbrev pub from_space : List ℕ → List ℕ
from_space [] = []
from_space (b ∷ text) = if b == SPACE then b ∷ text else from_space text

-- the text from its first character on that isn't a space
abbrev pub without_spaces : List ℕ → List ℕ
without_spaces [] = []
without_spaces (b ∷ text) = if b == SPACE then without_spaces text else b ∷ text

-- a character before a text without spaces at its end; before nothing, a space is at the end
abbrev pub put_first : ℕ → List ℕ → List ℕ
put_first b [] = if b == SPACE then [] else b ∷ []
put_first b (c ∷ text) = b ∷ (c ∷ text)

-- the text without the spaces at its end
abbrev pub without_end_spaces : List ℕ → List ℕ
without_end_spaces [] = []
without_end_spaces (b ∷ text) = put_first b (without_end_spaces text)

-- the greatest number of 32 bits
abbrev pub MOST : ℕ
MOST = 2 ^ 32 - 1

-- the text is a number, of any number of digits; what 32 bits don't hold is as their greatest
-- number, and that is the number of no tag, graph or state
pub record IsNumber (text : List ℕ) (number : ℕ) : Type 0 where
  pub numeral : IsNumeral 10 text
  pub value : number ≡ min (digits_value 10 text) MOST
