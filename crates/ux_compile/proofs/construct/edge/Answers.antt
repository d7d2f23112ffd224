use Rattle.std.proofs.Common.{arith}
use Rattle.std.proofs.lemmas.Grind.{common_steps}
use Rattle.ux_compile.proofs.construct.edge.Goals as goal

pub returns : goal.returns
returns c =
    let number = c.requires.chain.number in
    let first = c.requires.chain.first in
    grind (arith, common_steps)
