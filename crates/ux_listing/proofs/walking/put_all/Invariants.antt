use Rattle.std.proofs.Common.{take}
use Rattle.std.specs.Prelude.{Contains}
use Rattle.ux_listing.specs.declared.config.Item.{Item}
use Rattle.ux_listing.specs.Reaching.{StaysTold}
use Rattle.ux_listing.specs.Sets.{Adds}
use Rattle.ux_listing.specs.Walking.{IsSeen}
use Rattle.ux_listing.proofs.walking.put_all.Given as goal

-- the items so far were added
abbrev pub invariant-loop-item : goal.invariant-loop-item
invariant-loop-item g l = record {
  origins : g.O.Origins.is_sound l.origins;
  told : StaysTold (g.O.Origins.told l.fn.origins) (g.O.Origins.told l.origins);
  adds : Adds (Contains (take l.item-index l.items)) l.fn.seen.keys l.seen.keys;
  seen : (w : Item) → Contains (take l.item-index l.items) w →
      IsSeen l.seen.keys (g.O.Origins.told l.origins) l.from w;
}
