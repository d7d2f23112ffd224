use Rattle.std.proofs.Common.{◌≡◌, map, take}
use Rattle.ux_states.specs.Building.{hub_free}
use Rattle.ux_states.proofs.building.frees.Given as goal

-- the marks of the hubs so far
abbrev pub invariant-loop-hub : goal.invariant-loop-hub
invariant-loop-hub l = l.frees.items ≡ map (hub_free l.row) (take l.hub-index l.hubs)
