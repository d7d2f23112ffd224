use Rattle.std.proofs.Common.{List, ℕ, ◌++◌}
use Rattle.ux_image_look_ups.specs.Ways.{LeadsBy}
use Rattle.ux_image_look_ups.proofs.going_on.go_on.Given as goal

-- the place goes on with the characters so far
abbrev pub invariant-loop-c : goal.invariant-loop-c
invariant-loop-c l = (front : List ℕ) → LeadsBy l.states l.alphabet front l.place →
    LeadsBy l.states l.alphabet (front ++ l.yielded) l.next
