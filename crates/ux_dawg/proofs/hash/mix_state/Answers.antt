use Rattle.std.proofs.Common.{rules}
use Rattle.ux_dawg.specs.Hash.{mixed_words}
use Rattle.ux_dawg.proofs.hash.mix_state.Goals as goal

pub returns : goal.returns
unfolding mixed_words
returns c = search rules
