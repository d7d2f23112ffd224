use Rattle.std.proofs.Common.{[], take}
use Rattle.ux_walk.specs.Courses.{IsOverSome}
use Rattle.ux_walk.specs.Configurations.{AddsFrom}
use Rattle.ux_walk.proofs.reached.Reached.follow_edges.Given as goal

-- what is behind the edges so far was added
abbrev pub invariant-loop-edge : goal.invariant-loop-edge
invariant-loop-edge g l = AddsFrom l.fn.self l.self l.config (λ before.
    IsOverSome l.masked.alphabet.now l.masked.text.now l.masked.applied.now
    (g.C.Contexts.applies l.contexts)
    l.config.here [] l.config.at before
    (take l.edge-index l.edges))
