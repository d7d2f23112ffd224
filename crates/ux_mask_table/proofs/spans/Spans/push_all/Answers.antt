use Rattle.ux_mask_table.proofs.SpansLemmas.{put_more}
use Rattle.ux_mask_table.proofs.spans.Spans.push_all.Goals as goal

pub loop-end-preserved : goal.loop-end-preserved
loop-end-preserved c = record {
  numbers = put_more c.args.self.now.numbers.items c.loop-end.self.numbers.items
      c.push.new.self.items c.args.ends.now c.args.number c.loop-end._end-index
      c.loop-end-test.true c.loop-end.invariant.numbers c.in_ok-push.ensures.items;
  ends = c.loop-end.invariant.ends;
}
