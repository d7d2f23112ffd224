use Rattle.std.proofs.Common.{◌≡◌, ◌+◌, length}
use Rattle.ux_net.specs.Masks.{masks_in}
use Rattle.ux_lexical_tables.specs.Digits.{IsDigitRun}
use Rattle.ux_mask_table.specs.MaskTables.{IsEndOf}
use Rattle.ux_mask_table.specs.Spans.{AreKept, ArePaired, IsRow}
use Rattle.ux_mask_table.proofs.spans.Spans.try_masks.Given as goal

-- the masks so far were tried
abbrev pub invariant-loop-mask : goal.invariant-loop-mask
invariant-loop-mask g l = record {
  count : l.number ≡ l.mask-index;
  steps : l.steps ≡ l.fn.steps + l.mask-index;
  kept : AreKept l.fn.self l.self;
  paired : ArePaired l.self;
  run : IsDigitRun l.text l.run;
  row : IsRow l.self (IsEndOf l.alphabet l.text l.applied (masks_in l.masks) l.place)
      (record { from = l.from; to = length l.self.numbers.items }) l.mask-index;
}
