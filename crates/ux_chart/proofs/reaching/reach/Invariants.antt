use Rattle.std.proofs.Common.{◌+◌, ◌-◌, length}
use Rattle.ux_net.specs.Nets.{states_of}
use Rattle.ux_chart.specs.Search.{states_near}
use Rattle.ux_chart.proofs.ReachingLemmas.{IsReaching, box}
use Rattle.ux_chart.proofs.reaching.reach.Given as goal

abbrev pub invariant-loop-next : goal.invariant-loop-next
invariant-loop-next g l = IsReaching (g.B.Basis.input l.basis) l.net l.parts l.part.graph
    l.part.first l.chart.last l.begun.at l.begun.number l.seen l.next

abbrev pub decreases-loop-next : goal.decreases-loop-next
decreases-loop-next g l =
    length (box (states_near (states_of l.net l.part.graph) l.part.first) (l.chart.last + 1))
    - l.next
