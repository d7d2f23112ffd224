-- Small files, worked through by hand.
use Rattle.std.proofs.Common.{arith, ◌≡◌, ℕ, List, [], ◌++◌, refl, sym, ap, inr}
use Rattle.std.specs.Prelude.{codes}
use Rattle.std.specs.Fmt.{decimal}
use Rattle.std.proofs.lemmas.Fmt.{decimal_digit}
use Rattle.ux_sentence.specs.declared.error.SentenceError.TheVariants.{BadLine}
use Rattle.ux_sentence.specs.Written.{head_line, empty_line}
use Rattle.ux_sentence.specs.Files.{Place, Opens, Refuses}

one : decimal 1 ≡ codes "1"
one = decimal_digit 1 (omega arith)

two : decimal 2 ≡ codes "2"
two = decimal_digit 2 (omega arith)

-- the head line of a file of one sentence
pub head_of_one : head_line 1 ≡ codes "#TFST 1"
head_of_one = ap (λ (t : List ℕ). codes "#TFST " ++ t) one

-- the line of a sentence without a path
pub empty_of_two : empty_line 2 ≡ codes "S 2 EMPTY"
empty_of_two = ap (λ (t : List ℕ). codes "S " ++ (t ++ codes " EMPTY")) two

-- a file whose one sentence is missing
pub missing_is_refused : Refuses (codes "#TFST 1\n") (BadLine 2)
missing_is_refused =
    let start : Place = record { lines = []; passed = 1; told = 0; count = 1 } in
    let opens : Opens (codes "#TFST 1\n") start = record {
      head = codes "#TFST 1";
      lines = refl;
      is_head = sym head_of_one;
      fits = omega arith;
      passed = refl;
      told = refl;
    } in
    inr (start, opens, ([], start, refl, inr (omega arith, refl)))
