use Rattle.std.proofs.Common.{sym, arith}
use Rattle.ux_command_line.proofs.NumberLemmas.{unparsed}
use Rattle.ux_command_line.proofs.number.number.Goals as goal

pub returns-in_default : goal.returns-in_default
returns-in_default c =
    sym (unparsed c.args.most_digits c.args.least c.args.most c.args.text.now (omega arith)
    c.in_default.ensures.value.0)
