use Rattle.std.proofs.Common.{arith, refl, length}
use Rattle.ux_sentence.proofs.PassageLemmas.{known_first, known_next, known_whole}
use Rattle.ux_sentence.proofs.passage.leading_to.Goals as goal

pub loop-place-init : goal.loop-place-init
loop-place-init c =
    known_first c.args.steps.now c.args.last (length c.args.steps.now) c.new-states.result.keys
    c.put.new.states.keys c.new-states.ensures.empty refl c.in_ok-put.ensures

pub loop-place-preserved : goal.loop-place-preserved
loop-place-preserved c =
    known_next c.args.steps.now c.args.last c.loop-place.place _ c.loop-place.states.keys
    c.pass.new.states.keys c.requires.ascend c.requires.up (omega arith) c.loop-place.invariant
    c.in_ok-pass.ensures

pub returns : goal.returns
returns c =
    known_whole c.args.steps.now c.args.last c.loop-place.place c.loop-place.states.keys
    (omega arith) c.loop-place.invariant
