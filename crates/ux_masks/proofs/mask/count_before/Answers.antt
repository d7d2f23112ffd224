use Rattle.std.proofs.Common.{arith}
use Rattle.ux_masks.proofs.CountLemmas.{characters}
use Rattle.ux_masks.proofs.mask.count_before.Goals as goal

pub overflow_sub-result : goal.overflow_sub-result
overflow_sub-result c = omega (
  arith,
  c.count_chars.ensures,
  c.count_chars-2.ensures,
  characters c.args.text.now c.requires.0 c.args.left.now c.utf8.text c.utf8.left c.requires.1,
)

pub returns : goal.returns
returns c = λ front is. omega (
  arith,
  c.count_chars.ensures,
  c.count_chars-2.ensures,
  characters c.args.text.now front c.args.left.now c.utf8.text c.utf8.left is,
)
