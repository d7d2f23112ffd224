use Rattle.std.proofs.Common.{◌≡◌, ◌++◌, drop}
use Rattle.std.specs.List.{flat_map}
use Rattle.ux_flatten.specs.Cutting.{callee_of}
use Rattle.ux_flatten.specs.Making.{word_at}
use Rattle.ux_flatten.proofs.cuts.push_state.Given as goal

-- what the edges so far call, with what those call that are left
abbrev pub invariant-loop-edge : goal.invariant-loop-edge
invariant-loop-edge l =
    l.list.items ++ flat_map (callee_of (word_at l.words)) (drop l.edge-index l.edges)
    ≡ l.initial.list.items ++ flat_map (callee_of (word_at l.words)) l.edges
