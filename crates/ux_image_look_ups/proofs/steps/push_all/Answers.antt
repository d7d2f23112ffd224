use Rattle.std.proofs.Common.{List, ℕ, get_or, subst, arith}
use Rattle.std.proofs.lemmas.List.{get_or_default, take_all}
use Rattle.ux_image_look_ups.specs.Steps.{Puts}
use Rattle.ux_image_look_ups.proofs.StepLemmas.{states-more}
use Rattle.ux_image_look_ups.proofs.steps.push_all.Goals as goal

pub loop-state-preserved : goal.loop-state-preserved
loop-state-preserved c =
    let sources = c.args.from.now in
    let i = c.loop-state.state-index in
    let source = get_or sources i 0 in
    let less = c.loop-state-test.true in
    states-more c.args.states.now c.args.taken.now sources i source c.args.next.now
    c.loop-state.next c.push_state.new.next less (get_or_default sources i 0 source less)
    c.loop-state.invariant c.in_ok-push_state.ensures

pub returns : goal.returns
returns c =
    subst (λ (l : List ℕ). Puts c.args.states.now c.args.taken.now l c.args.next.now
    c.loop-state.next) (take_all c.loop-state.state-index c.args.from.now
    (omega (arith, c.loop-state-test.false))) c.loop-state.invariant
