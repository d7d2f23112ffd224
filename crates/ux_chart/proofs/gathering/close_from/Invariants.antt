use Rattle.std.proofs.Common.{◌≡◌, take}
use Rattle.ux_net.specs.declared.label.Label.TheVariants.{ContextEnd}
use Rattle.ux_net.specs.declared.state.Edge.{Edge}
use Rattle.ux_chart.specs.Search.{ClosesInto}
use Rattle.ux_chart.proofs.Collecting.{IsCollected}
use Rattle.ux_chart.proofs.gathering.close_from.Given as goal

abbrev pub invariant-loop-edge : goal.invariant-loop-edge
invariant-loop-edge l = IsCollected (λ c. ClosesInto l.net l.graph l.fn.config c)
    (λ (edge : Edge) c. (edge.label ≡ ContextEnd) × (edge.target ≡ c))
    l.fn.closers.items l.closers.items (take l.edge-index l.edge-items)
