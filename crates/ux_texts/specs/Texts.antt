-- Which files are alphabets and texts, and the plan of a command that reads one of each. Public:
-- the crate's public contracts speak of it.
use Rattle.std.specs.Prelude.{◌≡◌, ◌⊎◌, ℕ, ◌≤◌, Bool, List, length, Option}
use Rattle.ux_base.specs.Outside.{Files}
use Rattle.ux_plan.specs.Plans.{Format, Plan, Reads, decoded, gives, reads, said_as}
use Rattle.ux_plan.specs.declared.stop.Stop.{Stop}
use Rattle.ux_plan.specs.declared.stop.Stop.TheVariants as stop
use Rattle.ux_alphabet.specs.File as alphabet
use Rattle.ux_alphabet.specs.Letters.{Letters}
use Rattle.ux_reasons.specs.declared.reason.Reason.{Reason}
use Rattle.ux_reasons.specs.declared.reason.Reason.TheVariants.{Alphabet, Decode}
use Rattle.ux_tokens.specs.Tokens.{AreTokens, Token}
use Rattle.ux_tokens.specs.TokenFile.{token_file}
use Rattle.ux_tokens.specs.Reading as reading
use Rattle.ux_tokens.specs.declared.cutting.TheConstants.{MAX_TOKENS}
use Rattle.ux_tokens.specs.declared.text_error.TextError.{TextError}
use Rattle.ux_tokens.specs.declared.text_error.TextError.TheVariants.{NoMemory, TooManyTokens}

-- the text is an alphabet of these letters, each a word of its own exactly where `chars` says so
pub record IsAlphabet (chars : Bool) (text : List ℕ) (letters : Letters) : Type 0 where
  pub lines : alphabet.AreLines text letters.lines
  pub single : letters.single ≡ chars

-- the text has these tokens, and not too many
pub record HasTokens (letters : Letters) (text : List ℕ) (tokens : List Token) : Type 0 where
  pub are : AreTokens letters text tokens
  pub few : length tokens ≤ MAX_TOKENS

-- texts in these letters: each has tokens, and may have too many
abbrev pub tokens_format : Letters → Format Reason (List Token)
tokens_format letters = record {
  Is = HasTokens letters;
  Refuses = λ text reason. ⊥;
  IsTooLarge = reading.HasTooManyTokens letters;
}

-- alphabet files
abbrev pub alphabet_format : (chars : Bool) → Format Reason Letters
alphabet_format chars = decoded Decode (said_as Alphabet (IsAlphabet chars) alphabet.Refuses)

-- text files, whose texts are in these letters
abbrev pub text_format : Letters → Format Reason (List Token)
text_format letters = decoded Decode (tokens_format letters)

-- an alphabet, and then a text in its letters
abbrev pub letters_and_text : (text alphabet : List ℕ) → (chars : Bool) →
    Plan Reason (Letters × List Token)
letters_and_text text alphabet chars =
    reads alphabet (alphabet_format chars) (λ letters.
    reads text (text_format letters) (λ tokens.
    gives (letters, tokens)))

-- the file is the token file of the tokens that the text of this name has
pub record ReadsTokenFile (letters : Letters) (name : List ℕ) (told : Option Files)
    (file : List ℕ) : Type 0 where
  pub tokens : List Token
  pub has : Reads (text_format letters) name told tokens
  pub is : file ≡ token_file tokens

-- what a text without tokens stops by: too many of them make the file of this name too large
abbrev pub StopsTokens : (name : List ℕ) → TextError → Stop Reason → Type 0
StopsTokens name TooManyTokens by = (by ≡ stop.TooLarge name) ⊎ (by ≡ stop.NoMemory)
StopsTokens name NoMemory by = by ≡ stop.NoMemory
