use Rattle.std.proofs.Common.{ap, ◌^◌, ◌-◌}
use Rattle.std.specs.Prelude.{bit_and}
use Rattle.ux_dawg.specs.Hash.{hash_of}
use Rattle.ux_dawg.proofs.hash.state_hash.Goals as goal

pub returns : goal.returns
unfolding hash_of
returns c = ap (λ word. bit_and word (2 ^ 32 - 1)) c.mix_state.ensures
