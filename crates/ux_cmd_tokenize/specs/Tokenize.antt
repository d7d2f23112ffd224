-- What the command `tokenize` reads, and what answers it. This file carries the command's meaning.
use Rattle.std.specs.Prelude.{◌≡◌, ℕ, Bool, List}
use Rattle.ux_alphabet.specs.Letters.{Letters}
use Rattle.ux_plan.specs.Commands.{Command}
use Rattle.ux_tokens.specs.TokenFile.{token_file}
use Rattle.ux_tokens.specs.Tokens.{Token}
use Rattle.ux_texts.specs.Texts.{letters_and_text}
use Rattle.ux_texts.proofs.TextLaws.{letters_and_text_laws}
use Rattle.ux_reasons.specs.declared.reason.Reason.{Reason}

-- the token file of a text in these letters
abbrev pub tokenize : (text alphabet : List ℕ) → (chars : Bool) → Command Reason
tokenize text alphabet chars = record {
  Read = Letters × List Token;
  plan = letters_and_text text alphabet chars;
  laws = letters_and_text_laws text alphabet chars;
  Answers = λ read answer. answer ≡ token_file read.1;
}
