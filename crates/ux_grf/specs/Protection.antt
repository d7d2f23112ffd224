-- Backslashes: which signs they protect, and a text without those that do. Public, through `File`
-- and `Content`.
use Rattle.std.specs.Prelude.{ℕ, suc, ◌==◌, Bool, true, false, not, ◌&&◌, ◌||◌, List, [], ◌∷◌, Option, None, Some, option_map, if◌then◌else◌, slice_index}
use Rattle.ux_grf.specs.declared.protection.Stop.{Stop}
use Rattle.ux_grf.specs.declared.protection.Stop.TheVariants.{Mark, Greater, CloseBrace, LiteralEnd}
use Rattle.ux_grf.specs.declared.protection.Layer.{Layer}
use Rattle.ux_grf.specs.declared.protection.Layer.TheVariants.{File, Language}

abbrev pub QUOTE : ℕ
QUOTE = 34

abbrev pub BACKSLASH : ℕ
BACKSLASH = 92

-- one of " < { # + / space tab
abbrev pub ends_literal : ℕ → Bool
ends_literal b =
    b == 34 || b == 60 || b == 123 || b == 35 || b == 43 || b == 47 || b == 32 || b == 9

-- the sign at which a part of a text may end
abbrev pub is_stop : Stop → ℕ → Bool
is_stop Mark b = b == QUOTE
is_stop Greater b = b == 62
is_stop CloseBrace b = b == 125
is_stop LiteralEnd b = ends_literal b

-- the place of the first such sign that isn't protected; the first byte may be protected from
-- outside, each other one is by a backslash before it that isn't protected itself
abbrev pub first_free : Stop → Bool → List ℕ → Option ℕ
first_free stop protected [] = None
first_free stop protected (b ∷ text) =
    if is_stop stop b && not protected then Some 0
    else option_map suc (first_free stop (b == BACKSLASH && not protected) text)

-- the text ends after a backslash that protects
abbrev pub ends_open : Bool → List ℕ → Bool
ends_open protected [] = protected
ends_open protected (b ∷ text) = ends_open (b == BACKSLASH && not protected) text

-- a backslash before this text protects its first byte: in a file only a quotation mark or another
-- backslash, in the box language whatever stands there
abbrev pub protects : Layer → List ℕ → Bool
protects File text = slice_index text 0 == QUOTE || slice_index text 0 == BACKSLASH
protects Language text = true

-- the text without the backslashes that protect
abbrev pub resolved : Layer → Bool → List ℕ → List ℕ
resolved layer protected [] = []
resolved layer protected (b ∷ text) =
    if b == BACKSLASH && not protected && protects layer text then resolved layer true text
    else b ∷ resolved layer false text
