use Rattle.std.proofs.Common.{arith}
use Rattle.std.proofs.lemmas.Grind.{common_steps}
use Rattle.ux_boxes.proofs.SplittingLemmas.{split_line_more}
use Rattle.ux_tokens.specs.Numbers.{texts_in}
use Rattle.ux_boxes.proofs.split.split_line.Goals as goal

pub loop-item-preserved : goal.loop-item-preserved
loop-item-preserved c =
    split_line_more c.args.alphabet.now (texts_in c.args.names.now) c.args.line.now
    c.loop-item.item-index
    c.item-item.result _ _ c.loop-item-test.true c.item-item.is c.loop-item.invariant
    c.in_ok-split_item.ensures

pub returns : goal.returns
returns c = grind (arith, common_steps)
