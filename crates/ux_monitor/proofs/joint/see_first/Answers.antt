use Rattle.std.proofs.Common.{List, subst, sym}
use Rattle.std.specs.Prelude.{IfOk}
use Rattle.ux_monitor.specs.declared.memory.Memory.{Memory}
use Rattle.ux_monitor.specs.Parts.{AreAllAt, AreStill, Begins, seen_in}
use Rattle.ux_monitor.proofs.PartsLemmas.{lent-back, lent-right}
use Rattle.ux_monitor.proofs.joint.see_first.Goals as goal

pub first_seen-requires : goal.first_seen-requires
first_seen-requires c =
    lent-right c.args.parts.now c.args.each.now.items c.as_mut_slice.result.now
    c.as_mut_slice.ensures.value c.requires

pub returns-clause-still : goal.returns-clause-still
returns-clause-still c =
    let parts = c.args.parts.now in
    let each = c.args.each.now in
    let new = c.first_seen.new.memories in
    let lent = c.as_mut_slice.ensures.value in
    let still = c.first_seen.ensures.still in
    subst (λ (ms : List Memory). AreStill parts each.items ms)
    (sym (lent-back parts each.items c.as_mut_slice.result.now new each.len each.ok.0
    c.requires still))
    (subst (λ (ms : List Memory). AreStill parts ms new) lent still)

pub returns-clause-begun : goal.returns-clause-begun
returns-clause-begun c =
    let parts = c.args.parts.now in
    let each = c.args.each.now in
    subst (λ (ms : List Memory). IfOk c.first_seen.result
    (λ seen. AreAllAt (seen_in ms) seen.items (Begins parts)))
    (sym (lent-back parts each.items c.as_mut_slice.result.now c.first_seen.new.memories each.len
    each.ok.0 c.requires c.first_seen.ensures.still))
    c.first_seen.ensures.begun
