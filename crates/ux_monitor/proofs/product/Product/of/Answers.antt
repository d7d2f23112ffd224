use Rattle.std.proofs.Common.{arith, refl}
use Rattle.ux_monitor.proofs.ProductLemmas.{like-numbered, numbered-more, numbered-none, kinds_alike}
use Rattle.ux_monitor.proofs.product.Product.of.Goals as goal

pub loop-reading-init : goal.loop-reading-init
loop-reading-init c = numbered-none c.args.parts.now c.in_ok-of.of.items _ c.in_ok-of.ensures.items

pub number_at-requires : goal.number_at-requires
number_at-requires c =
    like-numbered c.args.parts.now c.as_slice.result.now c.loop-reading.kinds.keys
    c.loop-reading.reading c.loop-reading.reading c.kind_like-like.result
    (rw c.as_slice.ensures.value c.loop-reading.invariant) c.kind_like-like.ensures

pub loop-reading-preserved : goal.loop-reading-preserved
loop-reading-preserved c =
    numbered-more c.args.parts.now c.loop-reading.of.items c.push.new.self.items
    c.loop-reading.kinds.keys c.number_at.new.kinds.keys c.loop-reading.reading
    c.in_ok-number.number _ c.number_at.ensures.kept
    c.in_ok-number.ensures.number refl c.in_ok-push.ensures.items
    c.loop-reading.invariant

pub returns : goal.returns
returns c =
    let counted = c.loop-reading.invariant.counted in
    record {
      kinds = kinds_alike c.args.parts.now c.loop-reading.of.items c.args.count
          c.loop-reading.kinds.keys c.requires (omega (arith, counted))
          c.loop-reading.invariant.are;
      memories = tt;
    }
