use Rattle.std.proofs.Common.{take}
use Rattle.ux_closure.specs.Meeting.{AddsFrom, IsPastSome, known}
use Rattle.ux_closure.proofs.passing.pass_each.Given as goal

-- what is behind the edges so far was met
abbrev pub invariant-loop-edge : goal.invariant-loop-edge
invariant-loop-edge l = AddsFrom l.stand
    (λ fs. IsPastSome l.is_spaced l.stand.here fs (take l.edge-index l.edges))
    (known l.fn.stacks.links.keys l.fn.met) (known l.stacks.links.keys l.met)
