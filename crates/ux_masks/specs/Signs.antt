-- The signs of mask texts. Public: the crate's public contracts speak of it.
use Rattle.std.specs.Prelude.{ℕ, ◌==◌, Bool, ◌||◌, ◌&&◌, nat_le}
use Rattle.ux_dela.specs.Signs.{is_comma, is_dot, is_code_sign}

abbrev pub COMMA : ℕ
COMMA = 44

abbrev pub DOT : ℕ
DOT = 46

abbrev pub PLUS : ℕ
PLUS = 43

abbrev pub TILDE : ℕ
TILDE = 126

abbrev pub COLON : ℕ
COLON = 58

abbrev pub EXCLAMATION : ℕ
EXCLAMATION = 33

-- a sign that no name has bare: `,` `.` `+` `:` `~` `!` `<` `>`
abbrev pub is_sign : ℕ → Bool
is_sign b = is_comma b || is_dot b || is_code_sign b || b == TILDE || b == EXCLAMATION
    || b == 60 || b == 62

-- a letter from A to Z
abbrev pub is_capital : ℕ → Bool
is_capital b = nat_le 65 b && nat_le b 90

-- a letter from A to Z, a digit, or `_`
abbrev pub is_code_character : ℕ → Bool
is_code_character b = is_capital b || (nat_le 48 b && nat_le b 57) || b == 95
