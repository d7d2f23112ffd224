use Rattle.std.proofs.Common.{[], take}
use Rattle.ux_walk.specs.Courses.{IsOverSomeAt}
use Rattle.ux_walk.specs.Configurations.{AddsFrom}
use Rattle.ux_walk.proofs.reached.Reached.follow_places.Given as goal

-- what is behind the edges at the places so far was added
abbrev pub invariant-loop-place : goal.invariant-loop-place
invariant-loop-place g l = AddsFrom l.fn.self l.self l.config (λ before.
    IsOverSomeAt l.masked.alphabet.now l.masked.text.now l.masked.applied.now
    (g.C.Contexts.applies l.contexts)
    l.config.here [] l.config.at before l.edges
    (take l.place-index l.places))
