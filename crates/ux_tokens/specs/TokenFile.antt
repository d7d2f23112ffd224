-- The token file of a text: the crate's public meaning. The manual, on tokenising; the layout is
-- this program's own.
use Rattle.std.specs.Prelude.{◌≡◌, ℕ, ◌≤◌, List, [], ◌∷◌, ◌++◌, length}
use Rattle.std.specs.List.{flat_map}
use Rattle.std.specs.Fmt.{decimal}
use Rattle.ux_alphabet.specs.Letters.{Letters}
use Rattle.ux_tokens.specs.declared.cutting.TheConstants.{MAX_TOKENS}
use Rattle.ux_tokens.specs.Tokens.{Token, AreTokens}
use Rattle.ux_tokens.specs.Numbers.{different_texts}

abbrev pub LINE_FEED : ℕ
LINE_FEED = 10

-- a text and a line feed
abbrev pub line_of : List ℕ → List ℕ
line_of text = text ++ LINE_FEED ∷ []

-- how many texts there are, and then each of them on a line
abbrev pub file_of : List (List ℕ) → List ℕ
file_of texts = line_of (decimal (length texts)) ++ flat_map line_of texts

-- how many different tokens there are, and then each of them on a line, in order of number
abbrev pub token_file : List Token → List ℕ
token_file tokens = file_of (different_texts tokens)

-- the file is that of the text's tokens, of which there are not too many
abbrev pub IsTokenFileOf : Letters → (text file : List ℕ) → Type 0
IsTokenFileOf alphabet text file =
    (tokens : List Token) × AreTokens alphabet text tokens × (length tokens ≤ MAX_TOKENS)
    × (file ≡ token_file tokens)
