use Rattle.std.proofs.Common.{List, Bor, ap, map}
use Rattle.std.proofs.lemmas.List.{nil_from_length}
use Rattle.ux_masks.specs.declared.mask.Mask.{Mask}
use Rattle.ux_mask_table.proofs.MaskTableLemmas.{table_of_none}
use Rattle.ux_mask_table.proofs.mask_table.MaskTable.fill.Goals as goal

pub returns-then-is_empty-clause-table : goal.returns-then-is_empty-clause-table
returns-then-is_empty-clause-table g c = λ net are.
    let keys = c.args.masks.now.set.keys in
    let none = nil_from_length keys (c.is_empty.ensures.0 c.if-is_empty.true) in
    table_of_none c.args.alphabet.now c.args.text.now c.args.applied.now net
    (record { masks = c.args.masks; rows = c.new-rows.result; numbers = c.new-numbers.result })
    are (ap (λ (l : List (Bor Mask)). map (λ (s : Bor Mask). s.now) l) none)
    c.new-rows.ensures.list
