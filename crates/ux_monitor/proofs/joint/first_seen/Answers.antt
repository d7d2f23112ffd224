use Rattle.std.proofs.Common.{arith, ◌∙◌, get_or, subst, sym}
use Rattle.std.proofs.lemmas.Option.{same_Some, slice_get-get_or}
use Rattle.ux_monitor.specs.Remembering.{BeginsAs}
use Rattle.ux_monitor.specs.Parts.{Begins, IsRememberedOf, RulePart}
use Rattle.ux_monitor.proofs.PartsLemmas.{read-at, reached-all, reached-more, reached-none, still-more, still-none, still-now, zip-at, zip-length}
use Rattle.ux_monitor.proofs.joint.first_seen.Goals as goal

pub loop-index-init : goal.loop-index-init
loop-index-init c =
    reached-none c.args.parts.now c.args.memories.now (Begins c.args.parts.now)
    c.in_ok-seen.seen.items c.in_ok-seen.ensures.items c.requires

pub bounds-memories-index : goal.bounds-memories-index
bounds-memories-index c =
    let len = zip-length IsRememberedOf c.args.parts.now c.loop-index.memories
    c.loop-index.invariant.right in
    let lt = c.loop-index-test.true in
    omega (arith, len, lt)

pub begin-requires : goal.begin-requires
begin-requires c =
    let parts = c.args.parts.now in
    let now = c.loop-index.memories in
    let i = c.loop-index.index in
    let len = zip-length IsRememberedOf parts now c.loop-index.invariant.right in
    let lt = c.loop-index-test.true in
    zip-at IsRememberedOf parts now c.loop-index.invariant.right i c.index-parts-index.result
    (get_or now i c.index-memories-index.result)
    (read-at parts i c.index-parts-index.result lt c.index-parts-index.is)
    (slice_get-get_or now i c.index-memories-index.result (omega (arith, len, lt)))

pub loop-index-preserved : goal.loop-index-preserved
loop-index-preserved c =
    let parts = c.args.parts.now in
    let old = c.args.memories.now in
    let now = c.loop-index.memories in
    let i = c.loop-index.index in
    let part = c.index-parts-index.result in
    let was = get_or now i c.index-memories-index.result in
    let lt = c.loop-index-test.true in
    let len = zip-length IsRememberedOf parts now c.loop-index.invariant.right in
    let at = read-at parts i part lt c.index-parts-index.is in
    let found = c.in_ok-number.ensures.begun in
    reached-more parts old now c.loop-index.seen.items i (Begins parts) c.loop-index.invariant part
    at was c.begin.new.memory
    (slice_get-get_or now i c.index-memories-index.result (omega (arith, len, lt)))
    c.begin.ensures.right c.begin.ensures.kept c.in_ok-number.number (
      found.0,
      found.1,
      λ other other_at. subst (λ (p : RulePart).
          BeginsAs p.over.rule.steps found.0) (same_Some part other (sym at ∙ other_at)) found.2,
    )
    c.push.new.self.items c.in_ok-push.ensures.items

pub returns-clause-begun : goal.returns-clause-begun
returns-clause-begun c =
    let parts = c.args.parts.now in
    let now = c.loop-index.memories in
    let len = zip-length IsRememberedOf parts now c.loop-index.invariant.right in
    let end = c.loop-index-test.false in
    reached-all parts c.args.memories.now now c.loop-index.seen.items c.loop-index.index
    (Begins parts) (omega (arith, len, end)) c.loop-index.invariant

pub returns-in_err-seen-clause-still : goal.returns-in_err-seen-clause-still
returns-in_err-seen-clause-still c = still-none c.args.parts.now c.args.memories.now c.requires

pub returns-in_err-number-clause-still : goal.returns-in_err-number-clause-still
returns-in_err-number-clause-still c =
    let parts = c.args.parts.now in
    let old = c.args.memories.now in
    let now = c.loop-index.memories in
    let i = c.loop-index.index in
    let part = c.index-parts-index.result in
    let was = get_or now i c.index-memories-index.result in
    let lt = c.loop-index-test.true in
    let len = zip-length IsRememberedOf parts now c.loop-index.invariant.right in
    still-more parts old now i (still-now parts old now c.loop-index.seen.items i
    (Begins c.args.parts.now) c.loop-index.invariant) part
    (read-at parts i part lt c.index-parts-index.is) was c.begin.new.memory
    (slice_get-get_or now i c.index-memories-index.result (omega (arith, len, lt))) c.begin.ensures.right
    c.begin.ensures.kept

pub returns-in_err-push-clause-still : goal.returns-in_err-push-clause-still
returns-in_err-push-clause-still c =
    let parts = c.args.parts.now in
    let old = c.args.memories.now in
    let now = c.loop-index.memories in
    let i = c.loop-index.index in
    let part = c.index-parts-index.result in
    let was = get_or now i c.index-memories-index.result in
    let lt = c.loop-index-test.true in
    let len = zip-length IsRememberedOf parts now c.loop-index.invariant.right in
    still-more parts old now i (still-now parts old now c.loop-index.seen.items i
    (Begins c.args.parts.now) c.loop-index.invariant) part
    (read-at parts i part lt c.index-parts-index.is) was c.begin.new.memory
    (slice_get-get_or now i c.index-memories-index.result (omega (arith, len, lt))) c.begin.ensures.right
    c.begin.ensures.kept

pub returns-clause-still : goal.returns-clause-still
returns-clause-still c = still-now c.args.parts.now c.args.memories.now c.loop-index.memories
    c.loop-index.seen.items c.loop-index.index
    (Begins c.args.parts.now) c.loop-index.invariant
