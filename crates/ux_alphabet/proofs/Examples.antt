-- Small alphabet files, read by hand.
use Rattle.std.proofs.Common.{◌≡◌, ℕ, List, [], ◌∷◌, ◌++◌, ap, get_or, arith, refl}
use Rattle.std.specs.Prelude.{codes}
use Rattle.std.specs.Str.{chars}
use Rattle.ux_base.specs.EachLine.{no_line, line_then, this_line, later_line}
use Rattle.ux_alphabet.specs.File.{without_blanks, nothing, single, pair, range, AreLines, Refuses}
use Rattle.ux_alphabet.specs.declared.line.Line.TheVariants.{Single, Pair, Range}
use Rattle.ux_alphabet.specs.declared.error.AlphabetError.TheVariants.{BadLine, EmptyRange}

-- blanks are taken off the end alone
without_blanks-example : without_blanks (codes " a  ") ≡ codes " a"
without_blanks-example = refl

-- `Aa`, an empty line, and the digits
three_lines : AreLines (65 ∷ 97 ∷ 10 ∷ 32 ∷ 13 ∷ 10 ∷ codes "#09")
    (Pair 65 97 ∷ (Range 48 57 ∷ []))
unfolding chars
three_lines =
    line_then _ _ (Pair 65 97 ∷ []) _ (pair _ 65 97 refl)
    (line_then _ _ [] _ (nothing _ refl)
    (line_then _ _ (Range 48 57 ∷ []) [] (range _ 48 57 refl (omega arith)) no_line))

-- the second line is a range from `Z` back to `A`, and the third is no line at all
range_refused : Refuses (codes "#" ++ 10 ∷ codes "#ZA" ++ 10 ∷ codes "abc") (EmptyRange 2)
unfolding chars
range_refused =
    later_line _ _ _ (Single 35 ∷ []) _ (single _ 35 refl)
    (this_line _ _ _ _ (refl, (90, 65, refl, omega arith)))

-- a blank at the start is a character
bad_refused : Refuses (codes "##" ++ 10 ∷ codes " #A") (BadLine 2)
unfolding chars
bad_refused =
    later_line _ _ _ (Pair 35 35 ∷ []) _ (pair _ 35 35 refl)
    (this_line _ _ _ _ (
      refl,
      record {
        many = omega arith;
        no_range = λ first last is. (let sign = ap (λ (cs : List ℕ). get_or cs 0 0) is in omega (arith, sign));
      },
    ))
