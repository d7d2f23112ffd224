use Rattle.std.proofs.Common.{length}
use Rattle.ux_image.specs.Grouping.{IsGrouped}
use Rattle.ux_image.proofs.listing.list_codes.Given as goal

abbrev pub invariant-loop-first : goal.invariant-loop-first
invariant-loop-first l = IsGrouped l.content l.rest l.register.lists.keys l.builder

abbrev pub decreases-loop-first : goal.decreases-loop-first
decreases-loop-first l = length l.rest
