use Rattle.std.proofs.Common.{get_or, drop, ◌+◌, arith, ◌≡◌, ◌≤◌, true, false, subst, Bool, length}
use Rattle.std.proofs.lemmas.Bool.{false_from_ne_true}
use Rattle.ux_dela.specs.Reading.{is_sign_before, mark_sign}
use Rattle.ux_dela.proofs.PlainLemmas.{IsCopiedTo, copied_more, copied_to_sign, copied_all, sign_test}
use Rattle.ux_dela.proofs.plain.find_sign.Goals as goal
use Rattle.ux_dela.proofs.plain.find_sign.Goals.{else-not-now_protected-via-then-not-now_protected+else-is_sign as tested, else-not-now_protected-via-else-not-now_protected as protected}

pub returns-then-is_sign-clause-cut : goal.returns-then-is_sign-clause-cut
returns-then-is_sign-clause-cut c =
    let text = c.args.text.now in
    let place = c.loop-place.place in
    let so_far : IsCopiedTo (mark_sign c.args.mark) c.args.protected text place false =
    subst (λ (now : Bool). IsCopiedTo (mark_sign c.args.mark) c.args.protected text place now)
    c.if-not-now_protected.true c.loop-place.invariant.0 in
    copied_to_sign (mark_sign c.args.mark) c.args.protected text place c.loop-place-test.true so_far
    (sign_test text place c.is_sign.result true c.is_sign.ensures c.if-is_sign.true)

pub loop-place-preserved : goal.loop-place-preserved
loop-place-preserved c =
    let text = c.args.text.now in
    let place = c.loop-place.place in
    let other : c.loop-place.now_protected ≡ false →
    is_sign_before (get_or text place 0) (drop (place + 1) text) ≡ false =
    λ is. elim c.else-not-now_protected.branch [
      | tested w ↦ sign_test text place w.is_sign.result false w.is_sign.ensures w.if-is_sign.false
      | protected w ↦ (let p = w.if-not-now_protected.false in cc)
    ] in (
      copied_more (mark_sign c.args.mark) c.args.protected text place c.loop-place.now_protected
          c.loop-place-test.true c.loop-place.invariant.0 other,
      λ is. cc,
    )

pub returns-clause-none : goal.returns-clause-none
returns-clause-none c =
    let place = c.loop-place.place in
    let end : length c.args.text.now ≤ place = omega arith in
    let now : c.loop-place.now_protected ≡ false =
    false_from_ne_true c.loop-place.now_protected
    (λ is. (let lt = c.loop-place.invariant.1 is in omega (arith, lt, end))) in
    copied_all (mark_sign c.args.mark) c.args.protected c.args.text.now place
    c.loop-place.now_protected end now c.loop-place.invariant.0
