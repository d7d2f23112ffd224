use Rattle.std.proofs.Common.{◌-◌, ℕ}
use Rattle.std.specs.Prelude.{Contains}
use Rattle.ux_listing.specs.Groups.{IsIn}
use Rattle.ux_listing.specs.Marking.{AreEndsMarked}
use Rattle.ux_listing.proofs.MarkedLemmas.{IsClosedUpTo}
use Rattle.ux_listing.proofs.marking.mark.Given as goal

-- the first so many were gone back from
abbrev pub invariant-loop-item : goal.invariant-loop-item
invariant-loop-item l = record {
  ends : AreEndsMarked l.seen.keys (Contains l.ends) l.start l.marked.keys;
  closed : IsClosedUpTo (λ (item origin : ℕ). IsIn l.origins.groups item origin) l.next l.marked.keys;
}

-- memory is finite: each mark has a number below 2^63
abbrev pub decreases-loop-item : goal.decreases-loop-item
decreases-loop-item l = 9223372036854775807 - l.next
