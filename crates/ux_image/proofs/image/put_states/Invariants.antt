use Rattle.std.proofs.Common.{◌≡◌, ◌++◌, All, map, take}
use Rattle.std.specs.List.{flat_map}
use Rattle.ux_image.specs.Images.{renumbered}
use Rattle.ux_image.specs.Layout.{state_bytes, StateFits}
use Rattle.ux_image.proofs.image.put_states.Given as goal

-- the states so far
abbrev pub invariant-loop-number : goal.invariant-loop-number
invariant-loop-number l = record {
  bytes : l.bytes.items ≡ l.fn.bytes.items
      ++ flat_map state_bytes (map (renumbered l.order.keys) (take l.number l.automaton));
  fits : All StateFits (map (renumbered l.order.keys) (take l.number l.automaton));
}
