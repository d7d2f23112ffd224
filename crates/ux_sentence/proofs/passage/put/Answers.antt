use Rattle.ux_sentence.proofs.PassageLemmas.{state_put}
use Rattle.ux_sentence.proofs.passage.put.Goals as goal

pub returns : goal.returns
returns c = state_put _ _ c.args.state c.in_ok-insert.ensures.updates
