use Rattle.std.proofs.Common.{◌≡◌, string_bytes, take}
use Rattle.std.specs.List.{flat_map}
use Rattle.ux_paradigm.specs.Lines.{line_of}
use Rattle.ux_paradigm.proofs.printing.entry_lines.Given as goal

-- the lines so far were put
abbrev pub invariant-loop-entry : goal.invariant-loop-entry
invariant-loop-entry l =
    string_bytes l.lines ≡ flat_map line_of (take l.entry-index l.entries)
