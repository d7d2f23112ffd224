-- A text that std doesn't parse writes no number of the tables.
use Rattle.std.proofs.Common.{arith, ◌≡◌, ℕ, ◌<◌, ◌≤◌, ◌^◌, List, [], ◌∷◌, refl, Bool, true, false, Some, None, ◌==◌, ◌&&◌, nat_lt, nat_le, length}
use Rattle.std.specs.List.{list_all}
use Rattle.std.specs.Str.Parse.{AllDigits, IsNumeral, digits_value, without_leading_plus}
use Rattle.std.specs.Char.{digit_value}
use Rattle.std.proofs.lemmas.Bool.Decides.{nat_tests}
use Rattle.ux_command_line.proofs.BoolLemmas.{and_left, and_right, none_unless}
use Rattle.ux_command_line.specs.Tables.{is_digit, number_of}

digit_bounds : (d : ℕ) → is_digit d ≡ true → (48 ≤ d) × (d ≤ 57)
digit_bounds d e = grind (arith, nat_tests)

digit_small : (d : ℕ) → is_digit d ≡ true → digit_value d < 10
digit_small d e = let b = digit_bounds d e in grind (arith, nat_tests)

all_digits : (word : List ℕ) → list_all is_digit word ≡ true → AllDigits 10 word
all_digits [] e = tt
all_digits (d ∷ word) e = (
  digit_small d (and_left (is_digit d) (list_all is_digit word) e),
  all_digits word (and_right (is_digit d) (list_all is_digit word) e),
)

-- digits have no sign before
without_sign : (word : List ℕ) → list_all is_digit word ≡ true → without_leading_plus word ≡ word
without_sign [] e = refl
without_sign (d ∷ word) e =
    let b = digit_bounds d (and_left (is_digit d) (list_all is_digit word) e) in
    let no_plus : (d == 43) ≡ false = grind (arith, nat_tests) in
    rw no_plus refl

module _ (digits least most : ℕ) (word : List ℕ) where
  is_any : Bool
  is_any = nat_lt 0 (length word)

  is_short : Bool
  is_short = nat_le (length word) digits

  is_all : Bool
  is_all = list_all is_digit word

  is_least : Bool
  is_least = nat_le least (digits_value 10 word)

  is_most : Bool
  is_most = nat_le (digits_value 10 word) most

  -- a number parses
  parsed : most < 2 ^ 32 →
      (is_any && (is_short && (is_all && (is_least && is_most)))) ≡ true →
      IsNumeral 10 (without_leading_plus word)
      × (digits_value 10 (without_leading_plus word) < 2 ^ 32)
  unfolding is_any is_short is_all is_least is_most
  parsed fits e =
      let any = and_left is_any (is_short && (is_all && (is_least && is_most))) e in
      let rest = and_right is_short (is_all && (is_least && is_most))
      (and_right is_any (is_short && (is_all && (is_least && is_most))) e) in
      let all = and_left is_all (is_least && is_most) rest in
      let small = and_right is_least is_most (and_right is_all (is_least && is_most) rest) in
      let some : 0 < length word = grind (arith, nat_tests, any) in
      let below : digits_value 10 word < 2 ^ 32 = grind (arith, nat_tests, small, fits) in
      rw (without_sign word all) ((some, all_digits word all), below)

  -- what doesn't parse is no number
  pub unparsed : most < 2 ^ 32 →
      (IsNumeral 10 (without_leading_plus word)
      × (digits_value 10 (without_leading_plus word) < 2 ^ 32) → ⊥) →
      number_of digits least most word ≡ None
  unfolding is_any is_short is_all is_least is_most
  unparsed fits fails =
      none_unless (is_any && (is_short && (is_all && (is_least && is_most))))
      (Some (digits_value 10 word)) (λ e. fails (parsed fits e))
