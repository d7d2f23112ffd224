use Rattle.std.proofs.Common.{subst}
use Rattle.ux_automaton.specs.Caches.{HasValue}
use Rattle.ux_automaton.proofs.SlotsLemmas.{added_none}
use Rattle.ux_automaton.proofs.slots.reach.Goals as goal

pub loop-slots-init : goal.loop-slots-init
loop-slots-init g c n v = λ h. h

pub loop-slots-preserved : goal.loop-slots-preserved
loop-slots-preserved g c n v = λ h. c.loop-slots.invariant n v
    (added_none c.loop-slots.slots.items n v
    (subst (λ l. HasValue l n v) c.in_ok-push.ensures.items h))

pub returns-clause-same : goal.returns-clause-same
returns-clause-same g c = c.loop-slots.invariant
