use Rattle.std.proofs.Common.{◌≡◌, ◌++◌, string_bytes, take}
use Rattle.ux_cmd_tfind.specs.Lines.{span_lines}
use Rattle.ux_cmd_tfind.proofs.printing.print_spans.Given as goal

-- the lines so far
abbrev pub invariant-loop-span : goal.invariant-loop-span
invariant-loop-span l =
    string_bytes l.answer ≡ string_bytes l.fn.answer ++ span_lines (take l.span-index l.spans)
