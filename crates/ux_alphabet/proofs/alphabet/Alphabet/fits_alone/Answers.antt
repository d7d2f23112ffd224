use Rattle.std.proofs.Common.{◌↔◌, ◌∙◌, IsTrue, List, [], sym, ap, subst}
use Rattle.std.specs.Prelude.{unwrap_or}
use Rattle.ux_alphabet.specs.Letters.{Letters, letters_of, FitsAlone}
use Rattle.ux_alphabet.specs.declared.line.Line.{Line}
use Rattle.ux_alphabet.proofs.alphabet.Alphabet.fits_alone.Goals as goal

-- the tables are of the alphabet's lines
pub returns-in-Some : goal.returns-in-Some
returns-in-Some c =
    subst (λ (lines : List Line). IsTrue c.fits_alone.result ↔ FitsAlone (letters_of lines) c.args.c)
    (sym (ap (λ t. unwrap_or t []) c.in-Some.is)
    ∙ ap (λ (letters : Letters). letters.lines) c.self.view_is)
    c.fits_alone.ensures
