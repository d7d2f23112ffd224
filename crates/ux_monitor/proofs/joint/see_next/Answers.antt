use Rattle.std.proofs.Common.{List, subst, sym}
use Rattle.std.specs.Prelude.{IfOk}
use Rattle.ux_monitor.specs.declared.memory.Memory.{Memory}
use Rattle.ux_monitor.specs.Parts.{AreAllAt, AreKnown, AreStill, Follows, seen_in}
use Rattle.ux_monitor.proofs.PartsLemmas.{lent-back, lent-right}
use Rattle.ux_monitor.proofs.joint.see_next.Goals as goal

pub next_seen-requires-clause-right : goal.next_seen-requires-clause-right
next_seen-requires-clause-right c =
    lent-right c.args.parts.now c.args.each.now.items c.as_mut_slice.result.now
    c.as_mut_slice.ensures.value c.requires.right

pub next_seen-requires-clause-known : goal.next_seen-requires-clause-known
next_seen-requires-clause-known c =
    subst (λ (ms : List Memory). AreKnown (seen_in ms) c.args.seen.now)
    (sym c.as_mut_slice.ensures.value) c.requires.known

pub returns-clause-still : goal.returns-clause-still
returns-clause-still c =
    let parts = c.args.parts.now in
    let each = c.args.each.now in
    let new = c.next_seen.new.memories in
    let lent = c.as_mut_slice.ensures.value in
    let still = c.next_seen.ensures.still in
    subst (λ (ms : List Memory). AreStill parts each.items ms)
    (sym (lent-back parts each.items c.as_mut_slice.result.now new each.len each.ok.0
    c.requires.right still))
    (subst (λ (ms : List Memory). AreStill parts ms new) lent still)

pub returns-clause-next : goal.returns-clause-next
returns-clause-next c =
    let parts = c.args.parts.now in
    let each = c.args.each.now in
    let new = c.next_seen.new.memories in
    let lent = c.as_mut_slice.ensures.value in
    subst (λ (ms : List Memory). IfOk c.next_seen.result (λ next. AreAllAt (seen_in ms) next.items
    (Follows parts (seen_in each.items) c.args.seen.now c.args.reading)))
    (sym (lent-back parts each.items c.as_mut_slice.result.now new each.len each.ok.0
    c.requires.right c.next_seen.ensures.still))
    (subst (λ (ms : List Memory). IfOk c.next_seen.result
    (λ next. AreAllAt (seen_in new) next.items
    (Follows parts (seen_in ms) c.args.seen.now c.args.reading))) lent c.next_seen.ensures.next)
