-- What the parts of the reader promise one another. Inner: the crate's own functions alone speak
-- of it.
use Rattle.std.specs.Prelude.{◌==◌, if◌then◌else◌, ◌≡◌, ◌⊎◌, ℕ, ◌<◌, List, [], ◌∷◌, ◌++◌}
use Rattle.ux_dela.specs.Signs.{BACKSLASH}
use Rattle.ux_dela.specs.Written.{written}
use Rattle.ux_masks.specs.declared.lexical.Parts.{Parts}
use Rattle.ux_masks.specs.declared.mask.Mask.{Mask}
use Rattle.ux_masks.specs.declared.reader.Fault.{Fault}
use Rattle.ux_masks.specs.declared.reader.Fault.TheVariants.{At, NoRoom}
use Rattle.ux_masks.specs.Texts.{Body, IsBody, body_text, parts_of, IsLexicalText}

-- the text is a body's that asks for these parts
pub record IsBodyText (text : List ℕ) (parts : Parts) : Type 0 where
  pub body : Body
  pub is : IsBody body
  pub whole : text ≡ written (body_text body)
  pub asks : parts ≡ parts_of body

-- some body's text begins with these characters
abbrev pub BeginsBody : List ℕ → Type 0
BeginsBody front = (rest : List ℕ) × (parts : Parts) × IsBodyText (front ++ rest) parts

-- some text of a lexical mask begins with these characters
abbrev pub BeginsLexical : List ℕ → Type 0
BeginsLexical front = (rest : List ℕ) × (mask : Mask) × IsLexicalText (front ++ rest) mask

-- no body goes on with the first character of what is left, which is ASCII
abbrev pub IsStuckBody : (front left : List ℕ) → Type 0
IsStuckBody front [] = ⊥
IsStuckBody front (b ∷ left) = (b < 128) × (BeginsBody (front ++ b ∷ []) → ⊥)

-- the text is no body's: what stands before what is left begins one, and then it goes no further
pub record StopsBody (text left : List ℕ) : Type 0 where
  pub front : List ℕ
  pub whole : text ≡ front ++ left
  pub begins : BeginsBody front
  pub none : (parts : Parts) → IsBodyText text parts → ⊥
  pub stuck : (left ≡ []) ⊎ IsStuckBody front left

-- the same of texts of lexical masks
abbrev pub IsStuckLexical : (front left : List ℕ) → Type 0
IsStuckLexical front [] = ⊥
IsStuckLexical front (b ∷ left) = (b < 128) × (BeginsLexical (front ++ b ∷ []) → ⊥)

pub record StopsLexical (text left : List ℕ) : Type 0 where
  pub front : List ℕ
  pub whole : text ≡ front ++ left
  pub begins : BeginsLexical front
  pub none : (mask : Mask) → IsLexicalText text mask → ⊥
  pub stuck : (left ≡ []) ⊎ IsStuckLexical front left

-- where reading stops: behind a backslash that ends the text, since it may protect a character that
-- isn't there
abbrev pub stop_at : List ℕ → List ℕ
stop_at [] = []
stop_at (b ∷ []) = if b == BACKSLASH then [] else b ∷ []
stop_at (b ∷ (c ∷ left)) = b ∷ (c ∷ left)

-- why no body is read
abbrev pub FailsBody : List ℕ → Fault → Type 0
FailsBody text (At left) = StopsBody text left.now
FailsBody text NoRoom = Unit {0}

-- why no lexical mask is read
abbrev pub FailsLexical : List ℕ → Fault → Type 0
FailsLexical text (At left) = StopsLexical text left.now
FailsLexical text NoRoom = Unit {0}
