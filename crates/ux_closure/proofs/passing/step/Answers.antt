use Rattle.std.proofs.Common.{◌≡◌, ◌∙◌, true, false, sym}
use Rattle.ux_closure.specs.Meeting.{known}
use Rattle.ux_closure.proofs.Adding.{adds_sound, named_kept}
use Rattle.ux_closure.proofs.Stepping.{over_same, steps_final, steps_on}
use Rattle.ux_closure.proofs.passing.step.Goals as goal

pub go_back-requires-clause-sound : goal.go_back-requires-clause-sound
go_back-requires-clause-sound c =
    adds_sound _ (known c.args.stacks.now.links.keys c.args.met.now)
    (known c.pass_each.new.stacks.links.keys c.pass_each.new.met) c.requires.sound
    (c.in_ok-pass_each.ensures.adds c.requires.named.0 c.requires.named.1)

pub go_back-requires-clause-named : goal.go_back-requires-clause-named
go_back-requires-clause-named c =
    named_kept c.args.stacks.now.links.keys c.pass_each.new.stacks.links.keys
    c.pass_each.ensures.grows c.args.stand c.requires.named

pub returns-in_ok-go_back-clause-adds : goal.returns-in_ok-go_back-clause-adds
returns-in_ok-go_back-clause-adds c =
    steps_final c.args.net.now c.args.is_spaced c.args.stand c.in-Some.state.now
    (sym c.in-Some.ensures) (known c.args.stacks.now.links.keys c.args.met.now)
    (known c.pass_each.new.stacks.links.keys c.pass_each.new.met)
    (known c.pass_each.new.stacks.links.keys c.go_back.new.met) c.if-state.true
    (over_same c.args.net.now c.args.is_spaced c.args.stand c.in-Some.state.now
    (sym c.in-Some.ensures) c.as_slice.result.now c.as_slice.ensures
    (known c.args.stacks.now.links.keys c.args.met.now)
    (known c.pass_each.new.stacks.links.keys c.pass_each.new.met)
    c.in_ok-pass_each.ensures.adds) c.in_ok-go_back.ensures

pub returns-else-state-clause-adds : goal.returns-else-state-clause-adds
returns-else-state-clause-adds c =
    steps_on c.args.net.now c.args.is_spaced c.args.stand c.in-Some.state.now
    (sym c.in-Some.ensures) (known c.args.stacks.now.links.keys c.args.met.now)
    (known c.pass_each.new.stacks.links.keys c.pass_each.new.met)
    (λ yes. let no : false ≡ true = sym c.if-state.false ∙ yes in cc)
    (over_same c.args.net.now c.args.is_spaced c.args.stand c.in-Some.state.now
    (sym c.in-Some.ensures) c.as_slice.result.now c.as_slice.ensures
    (known c.args.stacks.now.links.keys c.args.met.now)
    (known c.pass_each.new.stacks.links.keys c.pass_each.new.met)
    c.in_ok-pass_each.ensures.adds)
