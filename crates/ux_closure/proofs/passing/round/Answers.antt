use Rattle.std.proofs.Common.{arith}
use Rattle.ux_closure.specs.Meeting.{known}
use Rattle.ux_closure.proofs.Adding.{adds_sound, grows_more}
use Rattle.ux_closure.proofs.Rounds.{round_first, round_next, round_all}
use Rattle.ux_closure.proofs.passing.round.Goals as goal

pub loop-place-init : goal.loop-place-init
loop-place-init c = record {
  from = omega arith;
  to = c.requires.ordered;
  adds = round_first c.args.net.now c.args.is_spaced
      (known c.args.stacks.now.links.keys c.args.met.now) c.args.from c.requires.sound;
}

pub step_at-requires : goal.step_at-requires
step_at-requires c = record {
  sound = adds_sound _ (known c.args.stacks.now.links.keys c.args.met.now)
      (known c.loop-place.stacks.links.keys c.loop-place.met) c.requires.sound
      c.loop-place.invariant.adds;
}

pub loop-place-preserved : goal.loop-place-preserved
loop-place-preserved c =
    let from = c.loop-place.invariant.from in
    let under = c.loop-place-test.true in
    let within = c.requires.within in
    record {
      from = omega (arith, from);
      to = omega (arith, under);
      adds = round_next c.args.net.now c.args.is_spaced
          (known c.args.stacks.now.links.keys c.args.met.now)
          (known c.loop-place.stacks.links.keys c.loop-place.met)
          (known c.step_at.new.stacks.links.keys c.step_at.new.met) c.args.from
          c.loop-place.place c.requires.sound from (omega (arith, under, within))
          c.loop-place.invariant.adds c.in_ok-step_at.ensures.adds;
    }

pub returns-clause-grows : goal.returns-clause-grows
returns-clause-grows c = c.loop-place.invariant.adds.grows

pub returns-in_err-step_at-clause-grows : goal.returns-in_err-step_at-clause-grows
returns-in_err-step_at-clause-grows c =
    grows_more c.args.stacks.now.links.keys c.loop-place.stacks.links.keys
    c.step_at.new.stacks.links.keys c.loop-place.invariant.adds.grows c.step_at.ensures.grows

pub returns-clause-adds : goal.returns-clause-adds
returns-clause-adds c = round_all c.args.net.now c.args.is_spaced
    (known c.args.stacks.now.links.keys c.args.met.now)
    (known c.loop-place.stacks.links.keys c.loop-place.met) c.args.from c.loop-place.place
    c.args.to c.loop-place.invariant.to c.loop-place-test.false c.loop-place.invariant.adds
