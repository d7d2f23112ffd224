use Rattle.std.proofs.Common.{rules}
use Rattle.ux_alphabet.proofs.alphabet.Alphabet.fits.Goals as goal

-- by name, so that a wrong body is refused at once
pub returns-in-Some : goal.returns-in-Some
returns-in-Some c = search rules
