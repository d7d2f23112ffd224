use Rattle.std.proofs.Common.{List, ℕ, get_or, subst, sym}
use Rattle.std.specs.Prelude.{Contains}
use Rattle.ux_walk.proofs.Stepping.{item_at}
use Rattle.ux_listing.specs.Sets.{Adds}
use Rattle.ux_listing.proofs.SetsLemmas.{added_next, adds_none, has_next, taken_all, taken_none}
use Rattle.ux_listing.proofs.marking.add_all.Goals as goal

pub loop-item-init : goal.loop-item-init
loop-item-init c = record {
  adds = adds_none c.args.marked.now.keys;
  has = λ n h. absurd (taken_none c.args.numbers.now h);
}

pub loop-item-preserved : goal.loop-item-preserved
loop-item-preserved c =
    let numbers = c.args.numbers.now in
    let i = c.loop-item.item-index in
    let item = get_or numbers i 0 in
    record {
      adds = added_next numbers c.args.marked.now.keys c.loop-item.marked.keys
          c.number.new.set.keys i item c.loop-item-test.true
          (item_at numbers i 0 c.loop-item-test.true) c.loop-item.invariant.adds
          c.in_ok-number.ensures.added;
      has = has_next numbers c.loop-item.marked.keys c.number.new.set.keys i item
          c.loop-item-test.true (item_at numbers i 0 c.loop-item-test.true)
          c.loop-item.invariant.has c.in_ok-number.ensures.added;
    }

pub returns-clause-adds : goal.returns-clause-adds
returns-clause-adds c = subst (λ (l : List ℕ). Adds (Contains l) c.args.marked.now.keys
    c.loop-item.marked.keys) (taken_all c.args.numbers.now c.loop-item.item-index c.loop-item-test.false)
    c.loop-item.invariant.adds

pub returns-clause-has : goal.returns-clause-has
returns-clause-has c = λ n h. c.loop-item.invariant.has n (subst (λ (l : List ℕ). Contains l n)
    (sym (taken_all c.args.numbers.now c.loop-item.item-index c.loop-item-test.false)) h)
