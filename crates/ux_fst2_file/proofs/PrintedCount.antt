-- What is printed for the number of graphs says it.
use Rattle.std.proofs.Common.{arith, ◌≡◌, ℕ, zero, suc, ◌≤◌, ◌-◌, List, [], ◌∷◌, ◌++◌, true, refl, ◌∙◌, ap, subst, append-nil, length, length-append, decimal}
use Rattle.std.specs.Str.Parse.{AllDigits, digits_value}
use Rattle.std.proofs.lemmas.Fmt.{decimal_is_IsNumeral, length-decimal-le}
use Rattle.ux_fst2_file.specs.Fields.{begins_with_field, fields_of, from_space}
use Rattle.ux_fst2_file.specs.Lines.{IsCount}
use Rattle.ux_fst2_file.specs.Printed.{zeros, ten_digits}
use Rattle.ux_fst2_file.proofs.FieldLemmas.{fields-first}
use Rattle.ux_fst2_file.proofs.PrintedFields.{solid_digits, front_solid, whole_solid}

-- the count
zeros_long : (n : ℕ) → length (zeros n) ≡ n
zeros_long zero = refl
zeros_long (suc n) = ap suc (zeros_long n)

zeros_digits : (n : ℕ) (ds : List ℕ) → AllDigits 10 ds → AllDigits 10 (zeros n ++ ds)
zeros_digits zero ds h = h
zeros_digits (suc n) ds h = (omega arith, zeros_digits n ds h)

zeros_value : (n : ℕ) (ds : List ℕ) → digits_value 10 (zeros n ++ ds) ≡ digits_value 10 ds
zeros_value zero ds = refl
zeros_value (suc n) ds = zeros_value n ds

pub count_digits : (n : ℕ) → n ≤ 65535 → AllDigits 10 (ten_digits n)
count_digits n fits =
    zeros_digits (10 - length (decimal n)) (decimal n)
    (decimal_is_IsNumeral n (omega (arith, fits))).0.1

count_long : (n : ℕ) → n ≤ 65535 → length (ten_digits n) ≡ 10
count_long n fits =
    omega (
      arith,
      length-append (zeros (10 - length (decimal n))) (decimal n),
      zeros_long (10 - length (decimal n)),
      length-decimal-le 5 n (omega arith) (omega (arith, fits)) (omega (arith, fits)),
    )

pub count_says : (n : ℕ) → 1 ≤ n → n ≤ 65535 → IsCount (ten_digits n) n
count_says n some fits =
    let digits = count_digits n fits in
    let solid = solid_digits (ten_digits n) digits in
    let long = count_long n fits in
    let front = subst (λ (t : List ℕ). begins_with_field t ≡ true) (append-nil (ten_digits n))
    (front_solid (ten_digits n) [] solid (omega (arith, long))) in
    let whole = whole_solid (ten_digits n) solid in
    record {
      digits = ten_digits n;
      fields = record {
        front = front;
        are = fields-first (ten_digits n) front
            ∙ (ap (λ (f : List ℕ). f ∷ fields_of (from_space (ten_digits n))) whole.0
            ∙ ap (λ (t : List ℕ). ten_digits n ∷ fields_of t) whole.1);
      };
      ten = long;
      number = record {
        numeral = (omega (arith, long), digits);
        value = omega (
          arith,
          fits,
          zeros_value (10 - length (decimal n)) (decimal n),
          (decimal_is_IsNumeral n (omega (arith, fits))).1,
        );
      };
      some = some;
      fits = fits;
    }
