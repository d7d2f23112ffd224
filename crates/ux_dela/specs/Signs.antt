-- The signs of dictionary lines. All are ASCII, so that no byte of a longer character is one.
-- Public: the crate's public contracts speak of it.
use Rattle.std.specs.Prelude.{ℕ, ◌==◌, Bool, ◌||◌, ◌&&◌, nat_le}

abbrev pub COMMA : ℕ
COMMA = 44

abbrev pub DOT : ℕ
DOT = 46

abbrev pub SLASH : ℕ
SLASH = 47

abbrev pub PLUS : ℕ
PLUS = 43

abbrev pub COLON : ℕ
COLON = 58

abbrev pub EQUALS : ℕ
EQUALS = 61

abbrev pub SPACE : ℕ
SPACE = 32

abbrev pub HYPHEN : ℕ
HYPHEN = 45

abbrev pub BACKSLASH : ℕ
BACKSLASH = 92

abbrev pub LINE_FEED : ℕ
LINE_FEED = 10

-- the sign that ends a form
abbrev pub is_comma : ℕ → Bool
is_comma b = b == COMMA

-- the sign that ends a lemma
abbrev pub is_dot : ℕ → Bool
is_dot b = b == DOT

-- the sign that ends the codes
abbrev pub is_slash : ℕ → Bool
is_slash b = b == SLASH

-- the sign that ends a semantic code of a line of lemmas
abbrev pub is_plus : ℕ → Bool
is_plus b = b == PLUS

-- the sign that ends an inflection code
abbrev pub is_colon : ℕ → Bool
is_colon b = b == COLON

-- a sign that ends a grammatical or semantic code
abbrev pub is_code_sign : ℕ → Bool
is_code_sign b = is_plus b || is_colon b

-- the sign of a mark, which is a space or a hyphen
abbrev pub is_equals : ℕ → Bool
is_equals b = b == EQUALS

-- the signs in which tags stand
abbrev pub is_brace : ℕ → Bool
is_brace b = b == 123 || b == 125

-- the signs that are protected where a form or a lemma is printed
abbrev pub is_form_sign : ℕ → Bool
is_form_sign b = is_comma b || is_dot b || is_equals b || b == BACKSLASH

-- the signs that are protected where a code is printed
abbrev pub is_printed_code_sign : ℕ → Bool
is_printed_code_sign b = is_code_sign b || is_slash b || b == BACKSLASH

-- a letter of a class
abbrev pub is_upper : ℕ → Bool
is_upper b = nat_le 65 b && nat_le b 90

-- a digit of a class
abbrev pub is_digit : ℕ → Bool
is_digit b = nat_le 48 b && nat_le b 57
