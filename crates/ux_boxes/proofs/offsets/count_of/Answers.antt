use Rattle.std.proofs.Common.{arith, length}
use Rattle.ux_boxes.proofs.offsets.count_of.Goals as goal

pub returns : goal.returns
returns c = c.requires.offset (length c.args.graphs.now) (omega arith)
