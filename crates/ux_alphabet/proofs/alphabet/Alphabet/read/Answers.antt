use Rattle.std.proofs.Common.{rules}
use Rattle.ux_alphabet.proofs.FileLemmas.{lines_not_refused}
use Rattle.ux_alphabet.proofs.alphabet.Alphabet.read.Goals as goal

-- by name, so that a wrong body is refused at once
pub returns-clause-ok : goal.returns-clause-ok
returns-clause-ok c = search rules

pub returns-clause-exact : goal.returns-clause-exact
returns-clause-exact c = λ error refuses.
    lines_not_refused c.args.text.now c.in_ok-lines.lines.items error c.in_ok-lines.ensures.ok refuses
