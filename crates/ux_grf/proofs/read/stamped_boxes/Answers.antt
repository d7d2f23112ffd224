use Rattle.std.proofs.lemmas.Result.{err_from_is_err_and}
use Rattle.ux_grf.proofs.ReadLemmas.{line_is, rest_more, refuses_boxes, good_more, texts_more}
use Rattle.ux_grf.proofs.read.stamped_boxes.Goals as goal

pub returns-in_err-good_box-clause-refused : goal.returns-in_err-good_box-clause-refused
returns-in_err-good_box-clause-refused c =
    let p = err_from_is_err_and c.from_residual.result
    c.from_residual.ensures.1 in
    let i = c.loop-node.invariant in
    rw (p.1, p.2)
    (refuses_boxes c.args.count c.args.lines.now c.loop-node.node _ _ c.loop-node-test.true i.2
    (line_is c.args.lines.now c.loop-node.node c.loop-node.lines i.0 _
    c.next_line-line.ensures.line)
    c.in_err-good_box.ensures.refused)

pub loop-node-preserved : goal.loop-node-preserved
loop-node-preserved c =
    let i = c.loop-node.invariant in
    let is = line_is c.args.lines.now c.loop-node.node c.loop-node.lines i.0 _
    c.next_line-line.ensures.line in (
      rest_more c.args.lines.now c.loop-node.node c.loop-node.lines i.0 _
          c.next_line-line.ensures.rest,
      texts_more c.args.lines.now c.loop-node.node _ c.loop-node.boxes.items c.push.new.self.items
          _ i.1 is
          c.in_ok-good_box.ensures.text c.in_ok-push.ensures.items,
      good_more c.args.count c.args.lines.now c.loop-node.node _ i.2 is
          c.in_ok-good_box.ensures.good,
      c.in_ok-good_box.ensures.len,
      c.in_ok-good_box.ensures.below,
    )
