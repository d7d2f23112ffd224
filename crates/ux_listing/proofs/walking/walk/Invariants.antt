use Rattle.std.proofs.Common.{◌-◌}
use Rattle.ux_folds.specs.Folding.{Grows}
use Rattle.ux_tokens.specs.Numbers.{different_texts}
use Rattle.ux_walk.specs.LookUps.{AreSound}
use Rattle.ux_walk.specs.Settings.{masked_setting}
use Rattle.ux_listing.specs.Reaching.{IsReached}
use Rattle.ux_listing.specs.Walking.{IsKnown}
use Rattle.ux_listing.proofs.walking.walk.Given as goal

-- what was reached is right, and the walk went on from each item before the next
abbrev pub invariant-loop-item : goal.invariant-loop-item
invariant-loop-item g l = record {
  sound : AreSound l.masked.alphabet.now l.masked.net.now (different_texts l.masked.text.now)
      l.look_ups;
  grows : Grows (g.F.Fold.next l.fn.fold) (g.F.Fold.next l.fold) (g.F.Fold.means l.fn.fold)
      (g.F.Fold.means l.fold);
  origins : g.O.Origins.is_sound l.origins;
  reached : IsReached (g.F.Fold.next l.fold) (masked_setting l.masked)
      (g.C.Contexts.applies l.contexts) (IsKnown (g.F.Fold.means l.fold)) l.start l.first
      (g.M.Marks.marked l.marks) (g.O.Origins.told l.origins) l.reached l.next;
}

-- memory is finite: each item has a number below 2^63
abbrev pub decreases-loop-item : goal.decreases-loop-item
decreases-loop-item g l = 9223372036854775807 - l.next
