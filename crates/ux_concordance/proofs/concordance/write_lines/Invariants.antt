use Rattle.std.proofs.Common.{◌≡◌, ℕ, map, take, string_bytes}
use Rattle.std.specs.List.{flat_map}
use Rattle.ux_concordance.specs.Concordance.{written}
use Rattle.ux_concordance.specs.Lent.{AreFilled, line_of}
use Rattle.ux_concordance.proofs.concordance.write_lines.Given as goal

-- the lines so far
abbrev pub invariant-loop-line : goal.invariant-loop-line
invariant-loop-line l = (columns : ℕ) → AreFilled columns l.lines →
    string_bytes l.text ≡ flat_map (written columns) (map line_of (take l.line-index l.lines))
