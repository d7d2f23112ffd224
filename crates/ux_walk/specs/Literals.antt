-- Literals, and which of the different tokens of a text each fits. Public: crates above look edges
-- up by them.
use Rattle.std.specs.Prelude.{◌≡◌, ℕ, ◌≤◌, List, ◌⊎◌, Some, slice_get, Contains, All, length, map}
use Rattle.std.specs.Str.{chars, IsUtf8}
use Rattle.ux_alphabet.specs.Letters.{Letters, Fits}
use Rattle.ux_base.specs.Distinct.{StandOnce}
use Rattle.ux_tokens.specs.Numbers.{texts_in}
use Rattle.ux_net.specs.declared.label.Label.{Label}
use Rattle.ux_net.specs.declared.label.Label.TheVariants.{CaseFolded, CaseExact}
use Rattle.ux_meaning.specs.Texts.{Folds}
use Rattle.ux_walk.specs.declared.words.Words.{Words}

-- a literal, which takes one token
abbrev pub IsLiteral : Label → Type 0
IsLiteral (CaseFolded entry) = Unit {0}
IsLiteral (CaseExact exact) = Unit {0}
IsLiteral other = ⊥

-- a literal fits this text of a token
abbrev pub FitsText : Letters → Label → List ℕ → Type 0
FitsText alphabet (CaseFolded entry) text = Folds alphabet entry text
FitsText alphabet (CaseExact exact) text = text ≡ exact
FitsText alphabet other text = ⊥

-- a literal is this text
abbrev pub IsFixed : Label → List ℕ → Type 0
IsFixed (CaseFolded entry) text = text ≡ entry
IsFixed (CaseExact exact) text = text ≡ exact
IsFixed other text = ⊥

-- a literal fits the token of this number
abbrev pub IsFitted : Letters → List (List ℕ) → Label → ℕ → Type 0
IsFitted alphabet texts label n =
    (text : List ℕ) × (slice_get texts n ≡ Some text) × FitsText alphabet label text

-- a literal is the text of the token of this number
abbrev pub IsOf : List (List ℕ) → Label → ℕ → Type 0
IsOf texts label n = (text : List ℕ) × (slice_get texts n ≡ Some text) × IsFixed label text

-- each text is UTF-8
abbrev pub AreUtf8 : List (List ℕ) → Type 0
AreUtf8 texts = (n : ℕ) (text : List ℕ) → slice_get texts n ≡ Some text → IsUtf8 text

-- no other character fits it
abbrev pub IsPlainChar : Letters → ℕ → Type 0
IsPlainChar alphabet c = (entry : ℕ) → Fits alphabet entry c → entry ≡ c

-- only these tokens may be fitted by a literal of another text
abbrev pub AreRaised : Letters → List (List ℕ) → List ℕ → Type 0
AreRaised alphabet texts raised = (n : ℕ) (text : List ℕ) → slice_get texts n ≡ Some text →
    Contains raised n ⊎ All (IsPlainChar alphabet) (chars text)

-- how many characters each text has
abbrev pub AreCounted : List (List ℕ) → List ℕ → Type 0
AreCounted texts counts = counts ≡ map (λ (text : List ℕ). length (chars text)) texts

-- how many characters a literal has, and so each text that it fits
abbrev pub count_of : Label → ℕ
count_of (CaseFolded entry) = length (chars entry)
count_of (CaseExact exact) = length (chars exact)
count_of other = 0

-- the words are these texts, by number
pub record AreReady (alphabet : Letters) (texts : List (List ℕ)) (words : Words) : Type 0 where
  pub texts_are : texts_in words.texts ≡ texts
  pub once : StandOnce texts
  pub few : length texts ≤ 4294967296
  pub utf8 : AreUtf8 texts
  pub counted : AreCounted texts words.counts.items
  pub raised_are : AreRaised alphabet texts words.raised.items
