use Rattle.std.proofs.Common.{arith}
use Rattle.std.proofs.lemmas.Grind.{common_steps}
use Rattle.ux_dict.proofs.entry_table.WholeHash.hash.Goals as goal

pub returns : goal.returns
returns g c = grind (arith, common_steps)
