-- Values of decimal digits, read from the left.
use Rattle.std.proofs.Common.{arith, ◌≡◌, ℕ, ◌+◌, ◌-◌, ◌*◌, ◌<◌, ◌≤◌, List, [], ◌∷◌, refl, ◌∙◌, ap, Bool, true, false, length, take, get_or, min, ◌&&◌, ltb}
use Rattle.std.specs.List.{list_all}
use Rattle.std.specs.Char.{digit_value}
use Rattle.std.specs.Str.Parse.{AllDigits}
use Rattle.std.proofs.lemmas.List.{take_more}
use Rattle.std.proofs.lemmas.List.Folds.{list_all_more}
use Rattle.std.proofs.lemmas.Int.Digits.{digits_value_push}
use Rattle.std.proofs.lemmas.Str.Parse.{digits_value_short, numerals_by_value, tells_digits}
use Rattle.std.proofs.lemmas.Bool.Decides.{nat_tests}
use Rattle.ux_grf.specs.Numbers.{is_digit, is_decimal, value_of}

pub and_left : (a b : Bool) → (a && b) ≡ true → a ≡ true
and_left true b e = refl
and_left false b e = e

pub and_right : (a b : Bool) → (a && b) ≡ true → b ≡ true
and_right true b e = e
and_right false b e = let no : false ≡ true = e in cc

digit_at_least : (d : ℕ) → is_digit d ≡ true → (48 ≤ d) × (d ≤ 57)
digit_at_least d e = grind (arith, nat_tests)

digit_is : (d : ℕ) → is_digit d ≡ true → digit_value d ≡ d - 48
digit_is d e = let b = digit_at_least d e in grind (arith, nat_tests)

-- one more digit
pub digits_more : (word : List ℕ) (i value : ℕ) → i < length word →
    list_all is_digit (take i word) ≡ true →
    is_digit (get_or word i 0) ≡ true → value ≡ min (value_of (take i word)) 1000000000 →
    (list_all is_digit (take (i + 1) word) ≡ true)
    × (min (value * 10 + (get_or word i 0 - 48)) 1000000000 ≡ min (value_of (take
    (i + 1) word)) 1000000000)
digits_more word i value lt all here is =
    (list_all_more is_digit word i 0 lt ∙ both, capped)
  where
    both : (list_all is_digit (take i word) && is_digit (get_or word i 0)) ≡ true
    both = rw (all, here) refl

    pushed : value_of (take (i + 1) word) ≡ value_of (take i word) * 10 + (get_or word i 0 - 48)
    pushed = ap value_of (take_more word i 0 lt)
        ∙ (digits_value_push 10 (take i word) (get_or word i 0)
        ∙ ap (λ d. value_of (take i word) * 10 + d) (digit_is (get_or word i 0) here))

    capped : min (value * 10 + (get_or word i 0 - 48)) 1000000000 ≡ min (value_of (take
        (i + 1) word)) 1000000000
    capped = rw pushed (omega arith)

all_digits : (word : List ℕ) → list_all is_digit word ≡ true → AllDigits 10 word
all_digits [] e = tt
all_digits (d ∷ word) e =
    let here = and_left (is_digit d) (list_all is_digit word) e in
    let b = digit_at_least d here in
    let v = digit_is d here in
    (omega arith, all_digits word (and_right (is_digit d) (list_all is_digit word) e))

-- nine digits write less than a thousand million
pub number_below : (word : List ℕ) → is_decimal word ≡ true → length word ≤ 9 →
    value_of word < 1000000000
number_below word e short =
    digits_value_short (numerals_by_value (AllDigits 10) tells_digits) word 9
    (all_digits word (and_right (ltb 0 (length word)) (list_all is_digit word) e)) short
