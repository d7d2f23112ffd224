use Rattle.ux_dawg.proofs.StepLemmas.{shared_is}
use Rattle.ux_dawg.proofs.pending.shared.Goals as goal

pub returns : goal.returns
returns c = shared_is c.args.above.now c.args.word.now _ c.count_same.ensures c.requires
