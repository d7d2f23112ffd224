-- The line that tells how many entries a dictionary has. Public, through `Check`.
use Rattle.std.specs.Prelude.{ℕ, List, ◌++◌, codes}
use Rattle.std.specs.Fmt.{decimal}

-- the word `entries`, and the number
abbrev pub entries_line : ℕ → List ℕ
entries_line count = codes "entries " ++ decimal count ++ codes "\n"
