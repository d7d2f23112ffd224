use Rattle.std.proofs.Common.{arith, ◌∙◌, [], ◌∷◌, ap, length, length-append}
use Rattle.ux_net.specs.Masks.{masks_in}
use Rattle.ux_mask_table.proofs.MaskTableLemmas.{steps_more, told_more}
use Rattle.ux_mask_table.proofs.mask_table.fill_rows.Goals as goal

pub loop-place-preserved : goal.loop-place-preserved
loop-place-preserved g c =
    let inv = c.loop-place.invariant in
    let told = c.in_ok-number.ensures in
    let numbers = c.loop-place.numbers.items in
    let put = c.in_ok-push.ensures.items in
    let long = inv.long in
    let len = ap length put ∙ length-append numbers (c.in_ok-number.number ∷ []) in
    record {
      steps = steps_more (length (masks_in c.args.masks.now)) c.loop-place.place c.args.steps.now
          c.loop-place.steps c.row_for.new.steps inv.steps c.row_for.ensures.steps;
      long = omega (arith, len, long);
      paired = told.paired;
      run = c.row_for.ensures.run;
      rows = told.rows;
      known = told.known;
      told = told_more c.args.alphabet.now c.args.text.now c.args.applied.now
          c.loop-place.rows.list.items c.row_for.new.rows.list.items numbers c.push.new.self.items
          c.in_ok-number.number c.loop-place.place told.grows long put told.told inv.told;
    }
