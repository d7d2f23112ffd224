use Rattle.std.proofs.Common.{◌≡◌, ◌++◌, take, flat_map, string_bytes}
use Rattle.ux_fst2_file.specs.Printed.{state_line_text}
use Rattle.ux_fst2_file.proofs.printing.put_states.Given as goal

abbrev pub invariant-loop-state : goal.invariant-loop-state
invariant-loop-state l =
    string_bytes l.text ≡ string_bytes l.fn.text ++ flat_map state_line_text
    (take l.state-index l.states)
