use Rattle.std.proofs.Common.{◌≡◌, ◌++◌, map, take}
use Rattle.ux_image_lexicon.specs.Walking.{branch_by}
use Rattle.ux_image_lexicon.proofs.walk.push_branches.Given as goal

-- the states of the edges so far were put
abbrev pub invariant-loop-edge : goal.invariant-loop-edge
invariant-loop-edge l =
    l.branches.items
    ≡ l.initial.branches.items ++ map (branch_by l.depth) (take l.edge-index l.edges)
