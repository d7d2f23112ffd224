use Rattle.std.proofs.Common.{◌≡◌, map, take}
use Rattle.ux_subsets.specs.Departures.{step_of}
use Rattle.ux_subsets.proofs.departures.steps_of.Given as goal

abbrev pub invariant-loop-link : goal.invariant-loop-link
invariant-loop-link l = l.found.items ≡ map step_of (take l.link-index l.sorted)
