-- The numbers of a graph file, in decimal digits. Public, through `File` and `Content`.
use Rattle.std.specs.Prelude.{ℕ, ◌==◌, Bool, false, ◌&&◌, nat_lt, nat_le, List, [], ◌∷◌, if◌then◌else◌, length}
use Rattle.std.specs.List.{list_all}
use Rattle.std.specs.Str.Parse.{digits_value}

abbrev pub MINUS : ℕ
MINUS = 45

abbrev pub is_digit : ℕ → Bool
is_digit b = nat_le 48 b && nat_le b 57

-- one or more decimal digits
abbrev pub is_decimal : List ℕ → Bool
is_decimal word = nat_lt 0 (length word) && list_all is_digit word

abbrev pub value_of : List ℕ → ℕ
value_of word = digits_value 10 word

-- one to nine decimal digits
abbrev pub is_number : List ℕ → Bool
is_number word = is_decimal word && nat_le (length word) 9

-- a number, or a minus sign and a number
abbrev pub is_coordinate : List ℕ → Bool
is_coordinate [] = false
is_coordinate (b ∷ word) = if b == MINUS then is_number word else is_number (b ∷ word)
