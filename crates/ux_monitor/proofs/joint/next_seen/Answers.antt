use Rattle.std.proofs.Common.{arith, ◌<◌, get_or, refl, length}
use Rattle.std.proofs.lemmas.Grind.{common_steps}
use Rattle.std.proofs.lemmas.Option.{slice_get-get_or}
use Rattle.ux_monitor.specs.Parts.{Follows, IsRememberedOf, number_at, seen_in}
use Rattle.ux_monitor.proofs.PartsLemmas.{read-at, reached-all, reached-more, reached-none, still-more, still-none, still-now, seen-length, step-found, zip-at, zip-length}
use Rattle.ux_monitor.proofs.joint.next_seen.Goals as goal

pub loop-index-init : goal.loop-index-init
loop-index-init c =
    reached-none c.args.parts.now c.args.memories.now
    (Follows c.args.parts.now (seen_in c.args.memories.now) c.args.seen.now c.args.reading)
    c.in_ok-next.next.items c.in_ok-next.ensures.items c.requires.right

pub bounds-memories-index : goal.bounds-memories-index
bounds-memories-index c =
    let len = zip-length IsRememberedOf c.args.parts.now c.loop-index.memories
    c.loop-index.invariant.right in
    let lt = c.loop-index-test.true in
    omega (arith, len, lt)

pub offset_bounds-memories-index : goal.offset_bounds-memories-index
offset_bounds-memories-index c =
    let now = c.loop-index.memories in
    let len = zip-length IsRememberedOf c.args.parts.now now c.loop-index.invariant.right in
    let lt = c.loop-index-test.true in
    let inside : c.loop-index.index < length now = omega (arith, len, lt) in
    grind (arith, common_steps)

pub bounds-seen-index : goal.bounds-seen-index
bounds-seen-index c =
    let memories = c.args.memories.now in
    let len = zip-length IsRememberedOf c.args.parts.now memories c.requires.right in
    let counted = c.requires.known.counted in
    let all = seen-length memories in
    let lt = c.loop-index-test.true in
    omega (arith, len, counted, all, lt)

pub step-requires : goal.step-requires
step-requires c =
    let parts = c.args.parts.now in
    let now = c.loop-index.memories in
    let i = c.loop-index.index in
    let len = zip-length IsRememberedOf parts now c.loop-index.invariant.right in
    let lt = c.loop-index-test.true in
    zip-at IsRememberedOf parts now c.loop-index.invariant.right i c.index-parts-index.result
    (get_or now i c.index-memories-index.result)
    (read-at parts i c.index-parts-index.result lt c.index-parts-index.is)
    (slice_get-get_or now i c.index-memories-index.result (omega (arith, len, lt)))

pub loop-index-preserved : goal.loop-index-preserved
loop-index-preserved c =
    let parts = c.args.parts.now in
    let old = c.args.memories.now in
    let now = c.loop-index.memories in
    let numbers = c.args.seen.now in
    let reading = c.args.reading in
    let i = c.loop-index.index in
    let part = c.index-parts-index.result in
    let was = get_or now i c.index-memories-index.result in
    let new = c.step.new.memory in
    let lt = c.loop-index-test.true in
    let len = zip-length IsRememberedOf parts now c.loop-index.invariant.right in
    let all = zip-length IsRememberedOf parts old c.requires.right in
    let part_at = read-at parts i part lt c.index-parts-index.is in
    let was_at = slice_get-get_or now i c.index-memories-index.result (omega (arith, len, lt)) in
    reached-more parts old now c.loop-index.next.items i (Follows parts (seen_in old) numbers reading)
    c.loop-index.invariant part part_at was new was_at c.step.ensures.right c.step.ensures.kept
    c.in_ok-number.number
    (step-found parts old now numbers reading i part was new c.in_ok-number.number
    (number_at numbers i) part_at was_at (c.loop-index.invariant.behind i (omega arith))
    c.requires.known (omega (arith, all, lt)) refl c.in_ok-number.ensures.stepped)
    c.push.new.self.items c.in_ok-push.ensures.items

pub returns-clause-next : goal.returns-clause-next
returns-clause-next c =
    let parts = c.args.parts.now in
    let old = c.args.memories.now in
    let now = c.loop-index.memories in
    let len = zip-length IsRememberedOf parts now c.loop-index.invariant.right in
    let end = c.loop-index-test.false in
    reached-all parts old now c.loop-index.next.items c.loop-index.index
    (Follows parts (seen_in old) c.args.seen.now c.args.reading) (omega (arith, len, end))
    c.loop-index.invariant

pub returns-in_err-next-clause-still : goal.returns-in_err-next-clause-still
returns-in_err-next-clause-still c = still-none c.args.parts.now c.args.memories.now c.requires.right

pub returns-in_err-number-clause-still : goal.returns-in_err-number-clause-still
returns-in_err-number-clause-still c =
    let parts = c.args.parts.now in
    let old = c.args.memories.now in
    let now = c.loop-index.memories in
    let i = c.loop-index.index in
    let part = c.index-parts-index.result in
    let was = get_or now i c.index-memories-index.result in
    let lt = c.loop-index-test.true in
    let len = zip-length IsRememberedOf parts now c.loop-index.invariant.right in
    still-more parts old now i (still-now parts old now c.loop-index.next.items i
    (Follows c.args.parts.now (seen_in c.args.memories.now) c.args.seen.now c.args.reading) c.loop-index.invariant) part
    (read-at parts i part lt c.index-parts-index.is) was c.step.new.memory
    (slice_get-get_or now i c.index-memories-index.result (omega (arith, len, lt))) c.step.ensures.right
    c.step.ensures.kept

pub returns-in_err-push-clause-still : goal.returns-in_err-push-clause-still
returns-in_err-push-clause-still c =
    let parts = c.args.parts.now in
    let old = c.args.memories.now in
    let now = c.loop-index.memories in
    let i = c.loop-index.index in
    let part = c.index-parts-index.result in
    let was = get_or now i c.index-memories-index.result in
    let lt = c.loop-index-test.true in
    let len = zip-length IsRememberedOf parts now c.loop-index.invariant.right in
    still-more parts old now i (still-now parts old now c.loop-index.next.items i
    (Follows c.args.parts.now (seen_in c.args.memories.now) c.args.seen.now c.args.reading) c.loop-index.invariant) part
    (read-at parts i part lt c.index-parts-index.is) was c.step.new.memory
    (slice_get-get_or now i c.index-memories-index.result (omega (arith, len, lt))) c.step.ensures.right
    c.step.ensures.kept

pub returns-clause-still : goal.returns-clause-still
returns-clause-still c = still-now c.args.parts.now c.args.memories.now c.loop-index.memories
    c.loop-index.next.items c.loop-index.index
    (Follows c.args.parts.now (seen_in c.args.memories.now) c.args.seen.now c.args.reading) c.loop-index.invariant
