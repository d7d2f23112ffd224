use Rattle.std.proofs.Common.{get_or, drop, ◌+◌, arith, ◌≡◌, ◌≤◌, true, false, subst, Bool, length}
use Rattle.std.proofs.lemmas.Bool.{false_from_ne_true}
use Rattle.ux_masks.specs.Names.{protects}
use Rattle.ux_masks.proofs.MeaningLemmas.{IsCopiedTo, copied_more, copied_to_backslash, copied_all, protects_test}
use Rattle.ux_masks.proofs.name.find_backslash.Goals as goal
use Rattle.ux_masks.proofs.name.find_backslash.Goals.{else-not-now_protected-via-then-not-now_protected+else-is_protecting as tested, else-not-now_protected-via-else-not-now_protected as protected}

pub returns-then-is_protecting : goal.returns-then-is_protecting
returns-then-is_protecting c =
    let text = c.args.text.now in
    let place = c.loop-place.place in
    let so_far : IsCopiedTo c.args.protected text place false =
    subst (λ (now : Bool). IsCopiedTo c.args.protected text place now)
    c.if-not-now_protected.true c.loop-place.invariant.0 in
    copied_to_backslash c.args.protected text place c.loop-place-test.true so_far
    (protects_test text place c.is_protecting.result true c.is_protecting.ensures
    c.if-is_protecting.true)

pub loop-place-preserved : goal.loop-place-preserved
loop-place-preserved c =
    let text = c.args.text.now in
    let place = c.loop-place.place in
    let other : c.loop-place.now_protected ≡ false →
    protects (get_or text place 0) (drop (place + 1) text) ≡ false =
    λ is. elim c.else-not-now_protected.branch [
      | tested w ↦ protects_test text place w.is_protecting.result false w.is_protecting.ensures w.if-is_protecting.false
      | protected w ↦ (let p = w.if-not-now_protected.false in cc)
    ] in (
      copied_more c.args.protected text place c.loop-place.now_protected c.loop-place-test.true
          c.loop-place.invariant.0 other,
      λ is. cc,
    )

pub returns : goal.returns
returns c =
    let place = c.loop-place.place in
    let end : length c.args.text.now ≤ place = omega arith in
    let now : c.loop-place.now_protected ≡ false =
    false_from_ne_true c.loop-place.now_protected
    (λ is. (let lt = c.loop-place.invariant.1 is in omega (arith, lt, end))) in
    copied_all c.args.protected c.args.text.now place c.loop-place.now_protected end now
    c.loop-place.invariant.0
