use Rattle.ux_net.specs.Masks.{masks_in}
use Rattle.ux_mask_table.proofs.RowsLemmas.{rows_more}
use Rattle.ux_mask_table.proofs.rows.Rows.add.Goals as goal

pub returns-clause-rows : goal.returns-clause-rows
returns-clause-rows g c =
    rows_more c.args.alphabet.now c.args.text.now c.args.applied.now (masks_in c.args.masks.now)
    c.args.self.now.spans c.try_masks.new.self c.args.self.now.list.items c.push.new.self.items
    (record { place = c.args.place; spans = c.in_ok-spans.spans }) c.in_ok-spans.ensures.kept
    c.in_ok-spans.ensures.paired c.in_ok-push.ensures.items c.requires.rows c.in_ok-spans.ensures.row
