use Rattle.std.proofs.Common.{rules}
use Rattle.ux_dela.proofs.printing.put_lemma.Goals as goal

-- by name, so that a wrong body is refused at once
pub returns : goal.returns
returns c = search rules
