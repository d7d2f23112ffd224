use Rattle.std.proofs.Common.{arith}
use Rattle.std.proofs.lemmas.Grind.{common_steps}
use Rattle.ux_concordance.proofs.LinesLemmas.{spaces_written}
use Rattle.ux_concordance.proofs.concordance.push_line.Goals as goal

pub returns : goal.returns
returns c = λ columns filled.
    let spaces = spaces_written columns c.args.line.now filled in
    grind (arith, common_steps, spaces)
