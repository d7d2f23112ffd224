use Rattle.std.proofs.Common.{arith}
use Rattle.std.proofs.lemmas.Grind.{common_steps}
use Rattle.ux_grf.proofs.marked.skip_blanks.Goals as goal

pub after-rest-requires-clause-inside : goal.after-rest-requires-clause-inside
after-rest-requires-clause-inside c = grind (arith, common_steps)

pub returns : goal.returns
returns c = grind (arith, common_steps)
