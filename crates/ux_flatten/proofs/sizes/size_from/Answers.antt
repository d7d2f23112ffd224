use Rattle.std.proofs.Common.{arith, ap, length}
use Rattle.ux_flatten.specs.Making.{size_at, word_at}
use Rattle.ux_flatten.proofs.SizesLaw.{size_whole}
use Rattle.ux_flatten.proofs.sizes.size_from.Goals as goal

pub returns : goal.returns
returns c =
    let many = ap length c.as_slice-state-items.ensures in
    size_whole (word_at c.args.words.now) (size_at c.args.below.now) c.args.graph.now
    c.loop-state.size c.loop-state.state-index (omega (arith, many, c.loop-state-test.false))
    c.loop-state.invariant
