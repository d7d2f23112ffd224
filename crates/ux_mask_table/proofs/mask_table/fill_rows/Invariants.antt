use Rattle.std.proofs.Common.{◌≡◌, ◌+◌, ◌*◌, ◌≤◌, length}
use Rattle.ux_net.specs.Masks.{masks_in}
use Rattle.ux_lexical_tables.specs.Digits.{IsDigitRun}
use Rattle.ux_mask_table.specs.MaskTables.{AreKnown, AreRows, AreTold}
use Rattle.ux_mask_table.specs.Spans.{ArePaired}
use Rattle.ux_mask_table.proofs.mask_table.fill_rows.Given as goal

-- the places so far have their rows
abbrev pub invariant-loop-place : goal.invariant-loop-place
invariant-loop-place g l = record {
  steps : l.steps ≤ l.fn.steps + length (masks_in l.masks) * l.place;
  long : length l.numbers.items ≡ l.place;
  paired : ArePaired l.rows.spans;
  run : IsDigitRun l.text l.run;
  rows : AreRows l.alphabet l.text l.applied (masks_in l.masks) l.rows.spans l.rows.list.items;
  known : AreKnown l.text l.applied l.rows.list.items l.known.items;
  told : AreTold l.alphabet l.text l.applied l.rows.list.items l.numbers.items l.place;
}
