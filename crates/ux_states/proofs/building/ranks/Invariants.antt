use Rattle.std.proofs.Common.{◌≡◌, map, take}
use Rattle.ux_states.specs.Building.{hub_rank}
use Rattle.ux_states.proofs.building.ranks.Given as goal

-- the ranks of the hubs so far
abbrev pub invariant-loop-hub : goal.invariant-loop-hub
invariant-loop-hub l = l.ranks.items ≡ map (hub_rank l.row) (take l.hub-index l.hubs)
