use Rattle.ux_sentence.proofs.PassageLemmas.{steps_more, steps_same}
use Rattle.ux_sentence.proofs.passage.steps_of.Goals as goal
use Rattle.ux_sentence.proofs.passage.steps_of.Goals.{then-link+in_ok-push, else-link}

pub loop-link-preserved : goal.loop-link-preserved
loop-link-preserved c =
    elim c.if-link.branch [
      | then-link+in_ok-push w ↦
          rw w.steps-is
          (steps_more c.args.links.now c.loop-link.link-index c.link-item.result
          c.loop-link.steps.items w.push.new.self.items c.loop-link-test.true c.link-item.is
          c.loop-link.invariant w.if-link.true w.in_ok-push.ensures.items)
      | else-link w ↦
          rw w.steps-is
          (steps_same c.args.links.now c.loop-link.link-index c.link-item.result
          c.loop-link.steps.items c.loop-link-test.true c.link-item.is c.loop-link.invariant
          w.if-link.false)
    ]
