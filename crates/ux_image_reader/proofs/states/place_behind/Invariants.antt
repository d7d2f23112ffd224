use Rattle.std.proofs.Common.{◌≡◌, take}
use Rattle.ux_image_reader.specs.Layout.{place_behind}
use Rattle.ux_image_reader.proofs.states.place_behind.Given as goal

-- the place behind the states so far
abbrev pub invariant-loop-number : goal.invariant-loop-number
invariant-loop-number l = l.place ≡ place_behind (take l.number l.states)
