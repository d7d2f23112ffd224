use Rattle.std.proofs.Common.{◌-◌}
use Rattle.ux_tokens.specs.Numbers.{different_texts}
use Rattle.ux_walk.specs.Contexts.{ApplyAsMeant}
use Rattle.ux_walk.specs.Settings.{applied_text}
use Rattle.ux_walk.specs.Configurations.{IsVisit, main_visit}
use Rattle.ux_walk.specs.LookUps.{AreSound}
use Rattle.ux_walk.proofs.Reaching.{Walking}
use Rattle.ux_walk.proofs.walking.reach.Given as goal

-- what was reached is right, and the walk went on from each configuration before the next
abbrev pub invariant-loop-config : goal.invariant-loop-config
invariant-loop-config g l = record {
  sound : AreSound l.masked.alphabet.now l.masked.net.now (different_texts l.masked.text.now)
      l.look_ups;
  main : IsVisit l.reached l.main (main_visit l.start);
  walking : (meant : ApplyAsMeant
      (applied_text l.masked.alphabet.now l.masked.text.now l.masked.applied.now)
      l.masked.net.now (g.C.Contexts.applies l.contexts)) →
      Walking l.masked.alphabet.now l.masked.text.now l.masked.applied.now
      (g.C.Contexts.applies l.contexts) l.masked.net.now meant l.start l.reached l.next;
}

-- the walk goes on from each configuration once
abbrev pub decreases-loop-config : goal.decreases-loop-config
decreases-loop-config g l = 9223372036854775807 - l.next
