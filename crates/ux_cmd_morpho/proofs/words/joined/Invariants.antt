use Rattle.std.proofs.Common.{◌≡◌, string_bytes, take}
use Rattle.std.specs.List.{flat_map}
use Rattle.ux_cmd_morpho.specs.Answering.{line_with_feed}
use Rattle.ux_cmd_morpho.proofs.words.joined.Given as goal

-- the lines so far are there
abbrev pub invariant-loop-line : goal.invariant-loop-line
invariant-loop-line l = string_bytes l.file ≡ flat_map line_with_feed (take l.line-index l.lines)
