use Rattle.ux_compile.proofs.RanksLemmas.{silent_from}
use Rattle.ux_compile.proofs.ranks.is_rest_silent.Goals as goal

pub returns : goal.returns
returns c = silent_from c.args.labels.now c.args.from c.args.front c.requires.front
