use Rattle.std.proofs.Common.{◌≡◌}
use Rattle.ux_image_reader.specs.Reading.{ReadsStates}
use Rattle.ux_image_reader.specs.Tests.{used_by}
use Rattle.ux_image_reader.proofs.states.read_states.Given as goal

-- the states so far were read, and pass
abbrev pub invariant-loop-number : goal.invariant-loop-number
invariant-loop-number l =
    ReadsStates l.count l.lists l.number l.initial.cursor l.cursor l.states
    × (l.used ≡ used_by l.states)
