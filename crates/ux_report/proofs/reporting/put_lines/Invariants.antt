use Rattle.std.proofs.Common.{◌≡◌, ◌++◌, string_bytes, take}
use Rattle.std.specs.List.{flat_map}
use Rattle.ux_tokens.specs.TokenFile.{line_of}
use Rattle.ux_report.proofs.reporting.put_lines.Given as goal

-- the lines so far are written
abbrev pub invariant-loop-line : goal.invariant-loop-line
invariant-loop-line l =
    string_bytes l.report
    ≡ string_bytes l.fn.report ++ flat_map line_of (take l.line-index l.lines)
