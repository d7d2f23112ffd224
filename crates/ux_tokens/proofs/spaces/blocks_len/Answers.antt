use Rattle.std.proofs.Common.{arith}
use Rattle.ux_tokens.proofs.SpacesLemmas.{block_more}
use Rattle.ux_tokens.proofs.spaces.blocks_len.Goals as goal

pub loop-len-preserved : goal.loop-len-preserved
loop-len-preserved c =
    let within = c.is_block.ensures.within c.loop-len-test.true in
    record {
      within = omega (arith, within);
      stays =
          block_more c.args.text.now c.loop-len.len 16 c.loop-len.invariant.stays within
          (c.is_block.ensures.stays c.loop-len-test.true);
    }
