use Rattle.ux_closure.specs.Meeting.{known}
use Rattle.ux_closure.proofs.Adding.{adds_sound, grows_more, named_kept}
use Rattle.ux_walk.proofs.LinksLemmas.{names_kept}
use Rattle.ux_closure.proofs.Stepping.{adds_first, adds_next, adds_all}
use Rattle.ux_closure.proofs.passing.pass_each.Goals as goal

pub loop-edge-init : goal.loop-edge-init
loop-edge-init c = λ fs named. adds_first c.args.is_spaced c.args.stand.here fs
    (known c.args.stacks.now.links.keys c.args.met.now) c.args.edges.now c.requires.sound.below

pub pass-requires-clause-sound : goal.pass-requires-clause-sound
pass-requires-clause-sound c =
    adds_sound _ (known c.args.stacks.now.links.keys c.args.met.now)
    (known c.loop-edge.stacks.links.keys c.loop-edge.met) c.requires.sound
    (c.loop-edge.invariant c.requires.named.0 c.requires.named.1)

pub pass-requires-clause-named : goal.pass-requires-clause-named
pass-requires-clause-named c =
    named_kept c.args.stacks.now.links.keys c.loop-edge.stacks.links.keys
    (c.loop-edge.invariant c.requires.named.0 c.requires.named.1).grows c.args.stand
    c.requires.named

pub loop-edge-preserved : goal.loop-edge-preserved
loop-edge-preserved c = λ fs named.
    let before = c.loop-edge.invariant fs named in
    adds_next c.args.is_spaced c.args.stand.here fs
    (known c.args.stacks.now.links.keys c.args.met.now)
    (known c.loop-edge.stacks.links.keys c.loop-edge.met)
    (known c.pass.new.stacks.links.keys c.pass.new.met) c.args.edges.now c.loop-edge.edge-index
    c.edge-item.result c.loop-edge-test.true c.edge-item.is before
    (c.in_ok-pass.ensures.adds fs (names_kept c.args.stacks.now.links.keys
    c.loop-edge.stacks.links.keys before.grows.extends c.args.stand.back fs named))

pub returns-clause-grows : goal.returns-clause-grows
returns-clause-grows c = (c.loop-edge.invariant c.requires.named.0 c.requires.named.1).grows

pub returns-in_err-pass-clause-grows : goal.returns-in_err-pass-clause-grows
returns-in_err-pass-clause-grows c =
    grows_more c.args.stacks.now.links.keys c.loop-edge.stacks.links.keys
    c.pass.new.stacks.links.keys
    (c.loop-edge.invariant c.requires.named.0 c.requires.named.1).grows c.pass.ensures.grows

pub returns-clause-adds : goal.returns-clause-adds
returns-clause-adds c = λ fs named. adds_all c.args.is_spaced c.args.stand.here fs
    (known c.args.stacks.now.links.keys c.args.met.now)
    (known c.loop-edge.stacks.links.keys c.loop-edge.met) c.args.edges.now c.loop-edge.edge-index
    c.loop-edge-test.false (c.loop-edge.invariant fs named)
