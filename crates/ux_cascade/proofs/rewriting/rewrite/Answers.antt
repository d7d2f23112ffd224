use Rattle.std.proofs.Common.{List, ℕ, refl, string_bytes, subst, sym}
use Rattle.ux_cascade.proofs.RewritingLemmas.{IsSoFar, passed_at, so_far_none, taken_at}
use Rattle.ux_cascade.proofs.rewriting.rewrite.Goals as goal

pub loop-hit-init : goal.loop-hit-init
loop-hit-init c =
    subst (λ (l : List ℕ). IsSoFar c.args.text.now c.args.hits.now c.args.hits.now l 0 0)
    (sym c.new-written.ensures.bytes)
    (so_far_none c.args.text.now c.args.hits.now c.requires)

-- the hit doesn't count
pub loop-hit-preserved-then-first-place : goal.loop-hit-preserved-then-first-place
loop-hit-preserved-then-first-place c =
    let l = c.loop-hit in
    passed_at c.args.text.now c.args.hits.now l.hit-index c.hit-item.result c.loop-hit-test.true
    c.hit-item.is (string_bytes l.written) l.place l.spans l.invariant c.if-first-place.true

-- the hit counts
pub loop-hit-preserved : goal.loop-hit-preserved
loop-hit-preserved c =
    let l = c.loop-hit in
    taken_at c.args.text.now c.args.hits.now l.hit-index c.hit-item.result c.loop-hit-test.true
    c.hit-item.is (string_bytes l.written) l.place l.spans l.invariant c.if-first-place.false
    (string_bytes c.push_str-in-loop-hit.new.self)
    (rw (
      c.in_ok-push_str-2.ensures.bytes,
      c.in_ok-push_str.ensures.bytes,
      c.between.ensures,
      c.as_str.ensures,
    ) refl)
