use Rattle.std.proofs.Common.{rules}
use Rattle.ux_grf.proofs.boxes.read_inner.Goals as goal

-- by name, so that a wrong body is refused at once
pub returns-in_err-read-clause-err : goal.returns-in_err-read-clause-err
returns-in_err-read-clause-err c = search rules

pub returns-clause-made : goal.returns-clause-made
returns-clause-made c = search rules
