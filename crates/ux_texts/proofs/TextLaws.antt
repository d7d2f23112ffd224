-- The formats of alphabets and of texts are sound, so the plan of both keeps the laws.
use Rattle.std.proofs.Common.{arith, ◌≡◌, ℕ, ◌<◌, Bool, List, ap, length, sym, ◌∙◌, subst}
use Rattle.ux_plan.proofs.PlanLaws.{decoded_sound, said_sound}
use Rattle.ux_plan.specs.Laws.{IsSound, Laws}
use Rattle.ux_reasons.specs.declared.reason.Reason.TheVariants.{Alphabet, Decode}
use Rattle.ux_alphabet.specs.File.{Refuses}
use Rattle.ux_alphabet.specs.Letters.{Letters}
use Rattle.ux_alphabet.specs.declared.line.Line.{Line}
use Rattle.ux_alphabet.specs.declared.error.AlphabetError.{AlphabetError}
use Rattle.ux_alphabet.proofs.FileLemmas.{lines_are_unique, lines_not_refused, refused_once}
use Rattle.ux_tokens.specs.Tokens.{Token}
use Rattle.ux_tokens.specs.Reading.{HasTooManyTokens}
use Rattle.ux_tokens.specs.declared.cutting.TheConstants.{MAX_TOKENS}
use Rattle.ux_tokens.proofs.UniqueLemmas.{tokens_unique}
use Rattle.ux_texts.specs.Texts.{HasTokens, IsAlphabet, alphabet_format, letters_and_text, text_format, tokens_format}

-- no text is an alphabet and refused
alphabet_not_refused : (chars : Bool) (text : List ℕ) (letters : Letters) (error : AlphabetError) →
    IsAlphabet chars text letters → Refuses text error → ⊥
alphabet_not_refused chars text letters error is refused =
    lines_not_refused text letters.lines error is.lines refused

letters_with : List Line → Bool → Letters
letters_with lines single = record { lines = lines; single = single }

-- a text is one alphabet
one_alphabet : (chars : Bool) (text : List ℕ) (letters other : Letters) →
    IsAlphabet chars text letters → IsAlphabet chars text other → letters ≡ other
unfolding letters_with
one_alphabet chars text letters other is also =
    ap (λ l. letters_with l letters.single)
    (lines_are_unique text letters.lines other.lines is.lines also.lines)
    ∙ ap (λ b. letters_with other.lines b) (is.single ∙ sym also.single)

-- no text has few tokens and too many
not_too_many : (letters : Letters) (text : List ℕ) (tokens : List Token) →
    HasTokens letters text tokens → HasTooManyTokens letters text → ⊥
not_too_many letters text tokens has more =
    let same = tokens_unique letters text more.0 tokens more.1 has.are in
    let many : MAX_TOKENS < length tokens =
    subst (λ (l : List Token). MAX_TOKENS < length l) same more.2 in
    omega (arith, many, has.few)

tokens_sound : (letters : Letters) → IsSound (tokens_format letters)
tokens_sound letters = record {
  excluded = λ text v reason is refused. refused;
  small = λ text v is large. not_too_many letters text v is large;
  refused_small = λ text reason refused large. refused;
  one = λ text v w a b. tokens_unique letters text v w a.are b.are;
  one_reason = λ text reason other a b. absurd a;
}

pub alphabet_sound : (chars : Bool) → IsSound (alphabet_format chars)
alphabet_sound chars =
    decoded_sound Decode _ (said_sound Alphabet (IsAlphabet chars) Refuses
    (alphabet_not_refused chars) (one_alphabet chars) refused_once)

pub text_sound : (letters : Letters) → IsSound (text_format letters)
text_sound letters = decoded_sound Decode (tokens_format letters) (tokens_sound letters)

pub letters_and_text_laws : (text alphabet : List ℕ) (chars : Bool) →
    Laws (letters_and_text text alphabet chars)
letters_and_text_laws text alphabet chars =
    (alphabet_sound chars, λ letters. (text_sound letters, λ tokens. tt))
