-- When a text is refused: the crate's public meaning.
use Rattle.std.specs.Prelude.{ℕ, ◌<◌, List, length}
use Rattle.ux_alphabet.specs.Letters.{Letters}
use Rattle.ux_tokens.specs.declared.text_error.TextError.{TextError}
use Rattle.ux_tokens.specs.declared.text_error.TextError.TheVariants.{TooManyTokens, NoMemory}
use Rattle.ux_tokens.specs.declared.cutting.TheConstants.{MAX_TOKENS}
use Rattle.ux_tokens.specs.Tokens.{Token, AreTokens}

-- the list of the text's tokens is longer than it may be
abbrev pub HasTooManyTokens : Letters → List ℕ → Type 0
HasTooManyTokens alphabet text =
    (tokens : List Token) × AreTokens alphabet text tokens × (MAX_TOKENS < length tokens)

-- when each error comes; out of memory may come at any text
abbrev pub Refuses : Letters → List ℕ → TextError → Type 0
Refuses alphabet text TooManyTokens = HasTooManyTokens alphabet text
Refuses alphabet text NoMemory = Unit {0}
