use Rattle.std.proofs.Common.{arith, ap}
use Rattle.ux_dawg.specs.declared.state.State.{State}
use Rattle.ux_dawg.proofs.StepLemmas.{grown_more}
use Rattle.ux_dawg.proofs.pending.grow.Goals as goal

pub loop-letter-preserved : goal.loop-letter-preserved
loop-letter-preserved c =
    grown_more c.args.register.now c.args.pending.now.above.items c.args.top c.args.word.now
    c.loop-letter.letter-index c.letter-item.result c.loop-letter.pending.above.items c.loop-letter.top
    _ _ c.loop-letter.invariant (omega arith) c.letter-item.is
    c.in_ok-push.ensures.items
    (ap (λ (s : State). s.code) c.begin_state-top.ensures)
    (ap (λ (s : State). s.edges) c.begin_state-top.ensures) c.requires.under
