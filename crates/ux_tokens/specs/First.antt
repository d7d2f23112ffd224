-- The token at the front of a text, which is the public meaning of `first_token`, and the mark that
-- may stand there.
use Rattle.std.specs.Prelude.{◌≡◌, ◌≢◌, ◌⊎◌, ℕ, ◌<◌, ◌≤◌, false, List, [], ◌∷◌, ◌++◌, length, take, drop}
use Rattle.std.specs.Str.{IsCharBoundary, chars}
use Rattle.ux_alphabet.specs.Letters.{Letters, IsLetter}
use Rattle.ux_dela.specs.declared.entry.Entry.{Entry}
use Rattle.ux_tokens.specs.declared.kind.Kind.{Kind}
use Rattle.ux_tokens.specs.declared.kind.Kind.TheVariants.{Word, Space, Other, Sentence, Stop, Tag}
use Rattle.ux_tokens.specs.Tokens.{IsTokenText, BeginsWithMark, IsTag, OPENING_BRACE, SENTENCE, STOP}

-- the text's first character, if there is one, is no letter
abbrev pub BeginsWithNoLetter : Letters → List ℕ → Type 0
BeginsWithNoLetter alphabet text =
    (c : ℕ) (rest : List ℕ) → chars text ≡ c ∷ rest → IsLetter alphabet c → ⊥

-- a token of this kind and length stands at the front, and a run of letters isn't cut short
pub record IsFirstToken (alphabet : Letters) (text : List ℕ) (kind : Kind) (len : ℕ) : Type 0 where
  pub is : IsTokenText alphabet kind (take len text)
  pub longest : alphabet.single ≡ false → kind ≡ Word →
      BeginsWithNoLetter alphabet (drop len text)

-- a mark stands at the front that is no tag
abbrev pub BeginsWithSign : List ℕ → Type 0
BeginsWithSign text =
    (rest : List ℕ) × ((text ≡ SENTENCE ++ rest) ⊎ (text ≡ STOP ++ rest))

-- a tag of this length stands at the front
abbrev pub IsTagFront : List ℕ → ℕ → Type 0
IsTagFront text len = (len ≤ length text) × (entry : Entry) × IsTag (take len text) entry

-- a mark of this kind and length stands at the front
abbrev pub IsMarkFront : List ℕ → Kind → ℕ → Type 0
IsMarkFront text Sentence len = (len ≡ 3) × (rest : List ℕ) × (text ≡ SENTENCE ++ rest)
IsMarkFront text Stop len = (len ≡ 6) × (rest : List ℕ) × (text ≡ STOP ++ rest)
IsMarkFront text Tag len = IsTagFront text len
IsMarkFront text Word len = ⊥
IsMarkFront text Space len = ⊥
IsMarkFront text Other len = ⊥

-- the token at the front, and it is no brace alone where a mark begins there
pub record IsFront (alphabet : Letters) (text : List ℕ) (kind : Kind) (len : ℕ) : Type 0 where
  pub cut : IsCharBoundary text len
  pub some : 0 < len
  pub first : IsFirstToken alphabet text kind len
  pub mark : BeginsWithMark text → take len text ≢ OPENING_BRACE ∷ []
