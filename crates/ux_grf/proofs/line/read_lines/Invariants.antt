use Rattle.std.proofs.Common.{ℕ, List, ◌++◌, length}
use denote.Text.{Utf8}
use denote.Shadow.{shadow}
use Rattle.ux_grf.specs.declared.item.Item.{Item}
use Rattle.ux_grf.specs.Lines.{AreLines, IsBadIn}
use Rattle.ux_grf.proofs.line.read_lines.Given as goal

-- the lines are those so far and those of the rest, and a fault of the rest is the first
abbrev pub invariant-loop-lines : goal.invariant-loop-lines
invariant-loop-lines l = record {
  text : shadow (Utf8 l.rest);
  lines : (later : List (List Item)) (output : List ℕ) → AreLines l.kind l.rest later output →
      AreLines l.kind l.text (l.lines.items ++ later) output;
  bad : (left : List ℕ) → IsBadIn l.kind l.rest left → IsBadIn l.kind l.text left;
}

abbrev pub decreases-loop-lines : goal.decreases-loop-lines
decreases-loop-lines l = length l.rest
