use Rattle.std.proofs.Common.{arith}
use Rattle.std.proofs.lemmas.Str.Pattern.{rfind_char}
use Rattle.ux_apply.specs.Names.{DOT}
use Rattle.ux_apply.proofs.NamesLemmas.{last_dot_is}
use Rattle.ux_apply.proofs.priority.last_dot.Goals as goal

pub returns : goal.returns
returns c =
    last_dot_is c.args.name.now c.rfind.result
    (rfind_char DOT c.args.name.now c.rfind.result c.rfind.ensures.cases (omega arith))
