use Rattle.std.proofs.Common.{ℕ, ◌≤◌, List, ◌++◌, length}
use denote.Text.{Utf8}
use denote.Shadow.{shadow}
use Rattle.ux_grf.specs.declared.item.Item.{Item}
use Rattle.ux_grf.specs.Items.{Reads, Fails}
use Rattle.ux_grf.proofs.line.read_items.Given as goal

-- the line is the items so far and those of the rest, and a fault of the rest is the line's first
abbrev pub invariant-loop-items : goal.invariant-loop-items
invariant-loop-items l = record {
  text : shadow (Utf8 l.rest);
  reads : (later : List Item) (after : List ℕ) → Reads l.rest later after →
      Reads l.text (l.items.items ++ later) after;
  fails : (left : List ℕ) → Fails l.rest left → Fails l.text left;
  shorter : length l.rest ≤ length l.text;
}

abbrev pub decreases-loop-items : goal.decreases-loop-items
decreases-loop-items l = length l.rest
