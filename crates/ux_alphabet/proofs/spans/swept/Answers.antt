use Rattle.std.proofs.Common.{◌↔◌, ◌<◌, ◌+◌, ℕ, [], ◌∷◌, length, arith, ap, length-append}
use Rattle.ux_alphabet.specs.Spans.{ReachesPast, IsMarked}
use Rattle.ux_alphabet.proofs.SpanLemmas.{AreMarks-more, IsMarked-mark, ReachesPast-more}
use Rattle.ux_alphabet.proofs.spans.swept.Goals as goal

pub loop-place-preserved : goal.loop-place-preserved
loop-place-preserved c =
    let reaches = c.args.reaches.now in
    let place = c.loop-place.place in
    let table = c.loop-place.table.items in
    let mark = c.is_mark.result in
    let so_far = c.loop-place.invariant in
    let size = so_far.size in
    let pushed = c.in_ok-push.ensures.items in
    let further : (y : ℕ) → (y < c.max-end.result) ↔ ReachesPast reaches (place + 1) y =
    λ y. rw c.max-end.ensures
    (ReachesPast-more reaches place c.loop-place.end y (so_far.furthest y)) in
    let here = IsMarked-mark reaches place _ mark c.is_mark.ensures (further place) in
    record {
      size = omega (arith, ap length pushed, length-append table (mark ∷ []), size);
      furthest = further;
      marks = AreMarks-more table _ (IsMarked reaches) place mark size pushed here so_far.marks;
    }
