use Rattle.std.proofs.Common.{ℕ, take}
use Rattle.ux_chart.specs.declared.config.Config.{Config}
use Rattle.ux_chart.specs.Places.{FollowsAt, SomeFollowsAt}
use Rattle.ux_chart.proofs.Collecting.{IsCollected}
use Rattle.ux_chart.proofs.following.follow_places.Given as goal

-- what is behind the edges at the places so far was added
abbrev pub invariant-loop-place : goal.invariant-loop-place
invariant-loop-place g l = IsCollected
    (λ (w : Config). SomeFollowsAt (g.B.Basis.input l.basis) l.net l.parts.levels l.graph l.from
    l.edges l.places w)
    (λ (place : ℕ) (w : Config). FollowsAt (g.B.Basis.input l.basis) l.net l.parts.levels l.graph
    l.from l.edges place w)
    l.fn.found.items l.found.items (take l.place-index l.places)
