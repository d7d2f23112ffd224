use Rattle.std.proofs.Common.{arith, ◌<◌, length, subst}
use Rattle.ux_closure.specs.Holding.{Holds}
use Rattle.ux_closure.specs.Meeting.{known}
use Rattle.ux_closure.proofs.Rounds.{closing_begins, closing_round, closing_all, greatest_falls}
use Rattle.ux_closure.proofs.passing.closure.Goals as goal

pub loop-from-init : goal.loop-from-init
loop-from-init c = closing_begins c.args.net.now c.args.is_spaced
    (known c.args.stacks.now.links.keys c.in_ok-met.met) c.args.stands.now c.requires.below
    c.requires.named c.in_ok-met.ensures.stands c.in_ok-met.ensures.ends

pub round-requires-clause-sound : goal.round-requires-clause-sound
round-requires-clause-sound c = c.loop-from.invariant.sound

pub loop-from-preserved : goal.loop-from-preserved
loop-from-preserved c = closing_round c.args.net.now c.args.is_spaced
    (Holds c.args.stacks.now.links.keys c.args.stands.now) c.args.stacks.now.links.keys
    (known c.loop-from.stacks.links.keys c.loop-from.met)
    (known c.round.new.stacks.links.keys c.round.new.met) c.loop-from.from c.count-to.result
    c.loop-from.invariant c.count-to.ensures c.in_ok-round.ensures.adds

pub loop-from-smaller : goal.loop-from-smaller
loop-from-smaller c =
    let some : c.loop-from.from < length c.loop-from.met.stands.keys =
    subst (λ n. c.loop-from.from < n) c.count.ensures c.loop-from-test.true in
    greatest_falls c.args.net.now c.args.is_spaced c.is_measured.ensures
    (known c.loop-from.stacks.links.keys c.loop-from.met)
    (known c.round.new.stacks.links.keys c.round.new.met) c.loop-from.from c.count-to.result
    c.loop-from.invariant.sound some c.count-to.ensures c.in_ok-round.ensures.adds

pub returns-clause-closure : goal.returns-clause-closure
returns-clause-closure c =
    let past = c.loop-from-test.false in
    let count = c.count.ensures in
    closing_all c.args.net.now c.args.is_spaced
    (Holds c.args.stacks.now.links.keys c.args.stands.now) c.args.stacks.now.links.keys
    (known c.loop-from.stacks.links.keys c.loop-from.met) c.loop-from.from
    c.loop-from.invariant (omega (arith, past, count)) c.into_closure.result
    c.into_closure.ensures.stands c.into_closure.ensures.ends c.into_closure.ensures.once
