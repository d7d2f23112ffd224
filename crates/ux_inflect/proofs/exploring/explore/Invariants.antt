use Rattle.std.proofs.Common.{drop, vec_len}
use Rattle.ux_inflect.specs.Places.{place_of}
use Rattle.ux_inflect.specs.Searches.{IsExploring}
use Rattle.ux_inflect.specs.Ways.{lists_of}
use Rattle.ux_inflect.specs.Weights.{work_left}
use Rattle.ux_inflect.proofs.exploring.explore.Given as goal

-- the places so far are reached, and the first of them have their links
abbrev pub invariant-loop-alloc : goal.invariant-loop-alloc
invariant-loop-alloc l = IsExploring l.detail l.net (place_of l.fn.start) l.configs.keys
    (lists_of l.links.items)

abbrev pub decreases-loop-alloc : goal.decreases-loop-alloc
decreases-loop-alloc l = work_left l.net l.ranks (drop (vec_len l.links) l.configs.keys)
