use Rattle.std.proofs.Common.{rules}
use Rattle.ux_status.proofs.status.Status.number.Goals as goal

-- by name, so that a wrong body is refused at once
pub returns-in-TooLarge : goal.returns-in-TooLarge
returns-in-TooLarge c = search rules
