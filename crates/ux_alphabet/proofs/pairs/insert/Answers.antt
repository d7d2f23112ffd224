use Rattle.ux_alphabet.proofs.PairLemmas.{pair_put}
use Rattle.ux_alphabet.proofs.pairs.insert.Goals as goal

pub returns : goal.returns
returns c = pair_put _ _ c.args.upper c.args.lower c.in_ok-insert.ensures.updates
