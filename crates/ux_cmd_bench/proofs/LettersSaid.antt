-- The alphabet that is made up is accepted: each line is a pair of letters.
use Rattle.std.proofs.Common.{arith, ◌≡◌, ℕ, zero, suc, ◌+◌, Bool, true, List, [], ◌∷◌, refl, get_or, length, nat_eq, map}
use Rattle.std.specs.List.{list_all}
use Rattle.std.specs.Str.{chars}
use Rattle.std.proofs.lemmas.Bool.{and_parts, eqb-true}
use Rattle.ux_base.specs.EachLine.{AreSaid, no_line, line_then}
use Rattle.ux_base.specs.Lines.{lines_of}
use Rattle.ux_alphabet.specs.File.{AreLines, LineSays, characters_of, pair}
use Rattle.ux_alphabet.specs.declared.line.Line.{Line}
use Rattle.ux_alphabet.specs.declared.line.Line.TheVariants.{Pair}
use Rattle.ux_cmd_bench.specs.Bench.{ALPHABET}

-- a line of two characters
abbrev is_pair : List ℕ → Bool
is_pair line = nat_eq (length (characters_of line)) 2

-- says them, the upper-case letter first
abbrev pair_of : List ℕ → Line
pair_of line = Pair (get_or (characters_of line) 0 0) (get_or (characters_of line) 1 0)

two_in : (characters : List ℕ) → length characters ≡ 2 →
    characters ≡ get_or characters 0 0 ∷ get_or characters 1 0 ∷ []
two_in [] two = absurd (omega (arith, two))
two_in (a ∷ []) two = absurd (omega (arith, two))
two_in (a ∷ b ∷ []) two = refl
two_in (a ∷ b ∷ c ∷ more) two = absurd (omega (arith, two))

pairs_said : (lines : List (List ℕ)) → list_all is_pair lines ≡ true →
    AreSaid LineSays lines (map pair_of lines)
pairs_said [] all = no_line
pairs_said (line ∷ lines) all =
    let parts = and_parts (is_pair line) (list_all is_pair lines) all in
    line_then line lines (pair_of line ∷ []) (map pair_of lines)
    (pair line _ _ (two_in (characters_of line) (eqb-true (length (characters_of line)) 2 parts.0)))
    (pairs_said lines parts.1)

-- so many pairs of letters from this one on
abbrev pairs_from : (count upper : ℕ) → List Line
pairs_from zero upper = []
pairs_from (suc count) upper = Pair upper (upper + 32) ∷ pairs_from count (upper + 1)

-- what the lines of the alphabet say: A to Z, each with its lower-case letter
abbrev pub LINES : List Line
LINES = pairs_from 26 65

pub letters_said : AreLines ALPHABET LINES
unfolding chars
letters_said = pairs_said (lines_of ALPHABET) refl
