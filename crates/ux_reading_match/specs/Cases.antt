-- The cases of letters for which masks ask. Inner: the crate's own functions alone speak of it.
use Rattle.std.specs.Prelude.{ℕ, List, All}
use Rattle.ux_alphabet.specs.Letters.{Letters, IsLower, IsUpper}
use Rattle.ux_reading_match.specs.declared.spelling.Case.{Case}
use Rattle.ux_reading_match.specs.declared.spelling.Case.TheVariants.{Lower, Upper, First}
use Rattle.ux_reading_match.specs.Matching.{BeginsSo}

-- the characters are of the case
abbrev pub IsOfCase : Letters → Case → List ℕ → Type 0
IsOfCase letters Lower text = All (IsLower letters) text
IsOfCase letters Upper text = All (IsUpper letters) text
IsOfCase letters First text = BeginsSo (IsUpper letters) text
