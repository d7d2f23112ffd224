-- A text as input: positions stand before its tokens. The manual, on Locate. Public: the contracts
-- of the walk and of the search speak of it.
use Rattle.std.specs.Prelude.{◌≡◌, ℕ, ◌+◌, List, Some, slice_get}
use Rattle.std.specs.List.{AllZip}
use Rattle.std.specs.Str.{chars}
use Rattle.ux_alphabet.specs.Letters.{Letters, Fits}
use Rattle.ux_tokens.specs.declared.kind.Kind.{Kind}
use Rattle.ux_tokens.specs.declared.kind.Kind.TheVariants as kind
use Rattle.ux_tokens.specs.Tokens.{Token}
use Rattle.ux_masks.specs.declared.mask.Mask as masks
use Rattle.ux_net.specs.declared.label.Label.{Label}
use Rattle.ux_net.specs.declared.label.Label.TheVariants.{CaseFolded, CaseExact, Mask, Brace, Space}
use Rattle.ux_outputs.specs.Rendering.{kind_of, skip}
use Rattle.ux_meaning.specs.Inputs.{Input}

-- characters may stand for a token of this kind: a word or another character
abbrev pub MayStandFor : Kind → Type 0
MayStandFor kind.Word = Unit {0}
MayStandFor kind.Other = Unit {0}
MayStandFor _ = ⊥

-- a text in braces may stand for a token of this kind: a sentence mark or a tag
abbrev pub IsBraced : Kind → Type 0
IsBraced kind.Sentence = Unit {0}
IsBraced kind.Tag = Unit {0}
IsBraced _ = ⊥

-- the text has as many characters as the entry, and each of the entry's fits
abbrev pub Folds : Letters → (entry text : List ℕ) → Type 0
Folds alphabet entry text = AllZip (Fits alphabet) (chars entry) (chars text)

-- so has the token's text
abbrev pub FoldsTo : Letters → (entry : List ℕ) → Token → Type 0
FoldsTo alphabet entry token = Folds alphabet entry token.text

-- after an optional space, one token of which it is so
abbrev pub TakesOne : List Token → (Token → Type 0) → ℕ → ℕ → Type 0
TakesOne tokens IsSo p k =
    (token : Token) × (slice_get tokens (skip tokens p) ≡ Some token) × IsSo token
    × (k ≡ skip tokens p + 1)

-- after an optional space, one word or other character of which it is so
abbrev pub TakesToken : List Token → (Token → Type 0) → ℕ → ℕ → Type 0
TakesToken tokens IsSo = TakesOne tokens (λ token. MayStandFor token.kind × IsSo token)

-- a space stands at the position
abbrev pub IsSpaceAt : List Token → ℕ → Type 0
IsSpaceAt tokens p = kind_of (slice_get tokens p) ≡ Some kind.Space

-- which spans a mask accepts: the mask, the position before the span, the position after it
abbrev pub Spans : Type 1
Spans = masks.Mask → (from to : ℕ) → Type 0

module _ (alphabet : Letters) (tokens : List Token) (Accepts : Spans) where
  -- the label takes the tokens from position p to position k
  abbrev pub Takes : Label → ℕ → ℕ → Type 0
  Takes (CaseFolded text) p k = TakesToken tokens (FoldsTo alphabet text) p k
  Takes (CaseExact text) p k = TakesToken tokens (λ token. token.text ≡ text) p k
  Takes (Mask mask) p k = Accepts mask (skip tokens p) k
  Takes (Brace text) p k =
      TakesOne tokens (λ token. IsBraced token.kind × (token.text ≡ text)) p k
  Takes Space p k = IsSpaceAt tokens p × (k ≡ p + 1)
  Takes other p k = ⊥

  -- the tokens of a text as input
  abbrev pub text_input : Input
  text_input = record {
    Takes = Takes;
    IsSpaceAt = IsSpaceAt tokens;
  }
