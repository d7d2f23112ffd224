use Rattle.std.proofs.Common.{List, get_or, subst, sym}
use Rattle.std.specs.Prelude.{Contains}
use Rattle.ux_walk.proofs.Stepping.{item_at}
use Rattle.ux_listing.specs.declared.config.Item.{Item}
use Rattle.ux_listing.specs.Sets.{Adds}
use Rattle.ux_listing.proofs.PutLemmas.{put_next, seen_next, no_item}
use Rattle.ux_listing.proofs.SetsLemmas.{adds_none, taken_all, taken_none}
use Rattle.ux_listing.proofs.walking.put_all.Goals as goal

pub loop-item-init : goal.loop-item-init
loop-item-init g c = record {
  origins = c.requires.origins;
  told = λ i o h. h;
  adds = adds_none c.args.seen.now.keys;
  seen = λ w h. absurd (taken_none c.args.items.now h);
}

pub put_item-requires-clause-from : goal.put_item-requires-clause-from
put_item-requires-clause-from g c =
    c.loop-item.invariant.adds.kept c.args.origin c.args.from c.requires.from

pub loop-item-preserved : goal.loop-item-preserved
loop-item-preserved g c =
    let items = c.args.items.now in
    let i = c.loop-item.item-index in
    let item = get_or items i no_item in
    record {
      origins = c.in_ok-put_item.ensures.origins;
      told = λ n o h. c.in_ok-put_item.ensures.told n o (c.loop-item.invariant.told n o h);
      adds = put_next items c.args.seen.now.keys c.loop-item.seen.keys c.put_item.new.seen.keys i item
          c.loop-item-test.true (item_at items i no_item c.loop-item-test.true)
          c.loop-item.invariant.adds c.in_ok-put_item.ensures.adds;
      seen = seen_next items c.loop-item.seen.keys c.put_item.new.seen.keys
          (g.O.Origins.told c.loop-item.origins) (g.O.Origins.told c.put_item.new.origins)
          c.in_ok-put_item.ensures.told c.args.from i item c.loop-item-test.true
          (item_at items i no_item c.loop-item-test.true) c.loop-item.invariant.seen
          c.in_ok-put_item.ensures.adds c.in_ok-put_item.ensures.seen;
    }

pub returns-clause-adds : goal.returns-clause-adds
returns-clause-adds g c = subst (λ (l : List Item). Adds (Contains l) c.args.seen.now.keys
    c.loop-item.seen.keys) (taken_all c.args.items.now c.loop-item.item-index c.loop-item-test.false)
    c.loop-item.invariant.adds

pub returns-clause-seen : goal.returns-clause-seen
returns-clause-seen g c = λ w h. c.loop-item.invariant.seen w
    (subst (λ (l : List Item). Contains l w)
    (sym (taken_all c.args.items.now c.loop-item.item-index c.loop-item-test.false)) h)
