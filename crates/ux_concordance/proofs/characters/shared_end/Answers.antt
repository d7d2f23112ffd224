use Rattle.std.proofs.Common.{arith, sym}
use Rattle.ux_concordance.proofs.EndsLemmas.{low_byte, one_more}
use Rattle.ux_concordance.proofs.characters.shared_end.Goals as goal

pub loop-shared-preserved : goal.loop-shared-preserved
loop-shared-preserved c =
    one_more c.args.a.now c.args.b.now c.loop-shared.shared c.loop-shared.invariant
    (grind (arith, c.loop-shared-test.true, c.min-most.ensures))
    (grind (arith, c.loop-shared-test.true, c.min-most.ensures))
    (low_byte _ (sym (c.if-not-is_ascii.ensures))) c.if-byte-b.false
