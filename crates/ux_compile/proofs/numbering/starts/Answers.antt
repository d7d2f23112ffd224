use Rattle.std.proofs.Common.{[]}
use Rattle.ux_compile.specs.Construct.{chain_start}
use Rattle.ux_base.proofs.JoinedLists.{adds_item}
use Rattle.ux_compile.proofs.numbering.starts.Goals as goal

pub loop-place-preserved : goal.loop-place-preserved
loop-place-preserved c = record {
  next = c.next_start-start.ensures;
  items = adds_item (chain_start c.args.places.now) [] c.loop-place.starts.items
      c.push.new.self.items c.loop-place.start c.loop-place.place
      c.loop-place.invariant.items c.in_ok-push.ensures.items c.loop-place.invariant.next;
}
