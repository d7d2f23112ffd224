use Rattle.std.proofs.Common.{get_or}
use Rattle.ux_walk.proofs.Stepping.{item_at}
use Rattle.ux_listing.proofs.MarkedLemmas.{ends_none, ends_more, ends_all}
use Rattle.ux_listing.proofs.marking.mark_ends.Goals as goal

pub loop-end-init : goal.loop-end-init
loop-end-init c = ends_none c.args.seen.now.keys c.args.ends.now c.args.start c.new-marked.result.keys

pub loop-end-preserved : goal.loop-end-preserved
loop-end-preserved c = ends_more c.args.seen.now.keys c.args.ends.now c.args.start
    c.loop-end.end-index (get_or c.args.ends.now c.loop-end.end-index 0) c.loop-end-test.true
    (item_at c.args.ends.now c.loop-end.end-index 0 c.loop-end-test.true) c.loop-end.marked.keys
    c.mark_end.new.marked.keys c.in_ok-mark_end.ensures.kept c.in_ok-mark_end.ensures.has
    c.loop-end.invariant

pub returns : goal.returns
returns c = ends_all c.args.seen.now.keys c.args.ends.now c.args.start c.loop-end.end-index
    c.loop-end.marked.keys c.loop-end-test.false c.loop-end.invariant
