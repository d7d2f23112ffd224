use Rattle.std.proofs.Common.{take}
use Rattle.ux_net.specs.declared.state.Edge.{Edge}
use Rattle.ux_chart.specs.declared.config.Config.{Config}
use Rattle.ux_chart.specs.Places.{Follows, SomeFollows}
use Rattle.ux_chart.proofs.Collecting.{IsCollected}
use Rattle.ux_chart.proofs.following.follow_edges.Given as goal

-- what is behind the edges so far was added
abbrev pub invariant-loop-edge : goal.invariant-loop-edge
invariant-loop-edge g l = IsCollected
    (λ (w : Config). SomeFollows (g.B.Basis.input l.basis) l.net l.parts.levels l.graph l.from
    l.edges w)
    (λ (edge : Edge) (w : Config). Follows (g.B.Basis.input l.basis) l.net l.parts.levels l.graph
    l.from edge w)
    l.fn.found.items l.found.items (take l.edge-index l.edges)
