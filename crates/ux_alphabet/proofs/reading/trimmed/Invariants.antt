use Rattle.std.proofs.Common.{◌≡◌, length}
use denote.Shadow.{shadow}
use denote.Text.{Utf8}
use Rattle.ux_alphabet.specs.File.{without_blanks}
use Rattle.ux_alphabet.proofs.reading.trimmed.Given as goal

-- what is left is text, and its end is that of the line
abbrev pub invariant-loop-prefix : goal.invariant-loop-prefix
invariant-loop-prefix l = (without_blanks l.rest ≡ without_blanks l.line) × shadow (Utf8 l.rest)

abbrev pub decreases-loop-prefix : goal.decreases-loop-prefix
decreases-loop-prefix l = length l.rest
