use Rattle.std.proofs.Common.{sym}
use Rattle.ux_lexical_tables.proofs.OneTokenLaws.{accepts_forward}
use Rattle.ux_net.specs.Nets.{net_grammar}
use Rattle.ux_meaning.proofs.Levels.{in_the_end}
use Rattle.ux_walk.specs.Settings.{applied_text}
use Rattle.ux_walk.specs.Configurations.{main_visit}
use Rattle.ux_walk.proofs.MatchingLemmas.{through}
use Rattle.ux_walk.proofs.Reaching.{begun_visit, next_inside, on_visit, walking_begins, walking_ends, walking_on}
use Rattle.ux_walk.proofs.walking.reach.Goals as goal

pub loop-config-init : goal.loop-config-init
loop-config-init g c = record {
  sound = c.step.ensures.sound;
  main = begun_visit c.args.reached.now c.visit.new.self c.step.new.self c.in_ok-main.main
      c.args.start c.requires.nothing c.in_ok-main.ensures c.in_ok-step.ensures.adds;
  walking = λ meant. let masked = c.args.masked.now in
      walking_begins masked.alphabet.now masked.text.now masked.applied.now
      (g.C.Contexts.applies c.args.contexts.now) masked.net.now meant c.args.start
      (accepts_forward masked.alphabet.now masked.text.now masked.applied.now
      c.requires.table.belongs)
      c.requires.measured c.args.reached.now c.visit.new.self c.step.new.self c.in_ok-main.main
      c.requires.nothing c.in_ok-main.ensures c.requires.inside c.in_ok-step.ensures.adds;
}

pub step-requires-in-Some-clause-inside : goal.step-requires-in-Some-clause-inside
step-requires-in-Some-clause-inside g c =
    let masked = c.args.masked.now in
    let meant = c.requires.told.meant in
    next_inside masked.alphabet.now masked.text.now masked.applied.now
    (g.C.Contexts.applies c.args.contexts.now) masked.net.now meant c.args.start
    c.loop-config.reached c.loop-config.next c.in-Some.config
    (c.loop-config.invariant.walking meant) (sym c.in-Some.ensures.is)

pub loop-config-preserved : goal.loop-config-preserved
loop-config-preserved g c = record {
  sound = c.step-in-Some.ensures.sound;
  main = on_visit c.loop-config.reached c.step-in-Some.new.self c.loop-config.next
      c.in-Some.config c.in_ok-main.main (main_visit c.args.start)
      (c.loop-config.invariant.walking c.requires.told.meant).sound (sym c.in-Some.ensures.is)
      c.in_ok-step-2.ensures.adds c.loop-config.invariant.main;
  walking = λ meant. let masked = c.args.masked.now in
      walking_on masked.alphabet.now masked.text.now masked.applied.now
      (g.C.Contexts.applies c.args.contexts.now) masked.net.now meant c.args.start
      (accepts_forward masked.alphabet.now masked.text.now masked.applied.now
      c.requires.table.belongs)
      c.requires.measured c.loop-config.reached c.step-in-Some.new.self c.loop-config.next
      c.in-Some.config (c.loop-config.invariant.walking meant) (sym c.in-Some.ensures.is)
      c.in_ok-step-2.ensures.adds;
}

pub returns-clause-named : goal.returns-clause-named
returns-clause-named g c = (c.loop-config.invariant.walking c.requires.told.meant).sound

pub returns-clause-exactly : goal.returns-clause-exactly
returns-clause-exactly g c = λ end events.
    let masked = c.args.masked.now in
    let input = applied_text masked.alphabet.now masked.text.now masked.applied.now in
    let meant = c.requires.told.meant in
    through (walking_ends masked.alphabet.now masked.text.now masked.applied.now
    (g.C.Contexts.applies c.args.contexts.now) masked.net.now meant c.args.start
    (accepts_forward masked.alphabet.now masked.text.now masked.applied.now
    c.requires.table.belongs)
    c.requires.measured c.loop-config.reached c.loop-config.next
    (c.loop-config.invariant.walking meant) (sym c.in_default.ensures.is)
    c.visits_stand_once.ensures end events)
    (in_the_end input (net_grammar masked.net.now) meant.level meant.levels meant.nested 1
    c.args.start end events)
