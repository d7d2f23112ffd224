use Rattle.std.proofs.Common.{arith}
use Rattle.ux_grf.proofs.EndsLemmas.{characters}
use Rattle.ux_grf.proofs.content.count_before.Goals as goal

pub overflow_sub-result : goal.overflow_sub-result
overflow_sub-result c = omega (
  arith,
  characters c.args.content.now c.requires.0 c.args.left.now c.utf8.content c.utf8.left
      c.requires.1,
)

pub returns : goal.returns
returns c = λ front is. omega (
  arith,
  characters c.args.content.now front c.args.left.now c.utf8.content c.utf8.left is,
)
