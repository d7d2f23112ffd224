use Rattle.std.proofs.Common.{arith, ◌≡◌, ◌∙◌, Bor, ap, sym, subst, length}
use Rattle.std.proofs.lemmas.List.{length-map}
use Rattle.ux_masks.specs.declared.mask.Mask.{Mask}
use Rattle.ux_net.specs.Masks.{masks_in}
use Rattle.ux_mask_table.specs.MaskTables.{IsEndOf}
use Rattle.ux_mask_table.specs.Spans.{IsRow}
use Rattle.ux_mask_table.proofs.RowsLemmas.{slot_at, tried_more}
use Rattle.ux_mask_table.proofs.SpansLemmas.{kept_both, kept_more, paired_more}
use Rattle.ux_mask_table.proofs.spans.Spans.try_masks.Goals as goal

pub loop-mask-preserved : goal.loop-mask-preserved
loop-mask-preserved g c =
    let inv = c.loop-mask.invariant in
    let step = c.ends.ensures.step in
    let count = inv.count in
    let steps = inv.steps in
    let old = c.loop-mask.self in
    let new = c.push_all.new.self in
    let put = c.in_ok-push_all.ensures in
    record {
      count = omega (arith, count);
      steps = omega (arith, step, steps);
      kept = kept_both c.args.self.now old new inv.kept
          (kept_more old new c.loop-mask.number c.deref.result.now inv.paired put.numbers put.ends);
      paired = paired_more old new c.loop-mask.number c.deref.result.now inv.paired put.numbers
          put.ends;
      run = c.ends.ensures.run;
      row = tried_more c.args.alphabet.now c.args.text.now c.args.applied.now
          (masks_in c.args.masks.now) old new c.len-from.result c.args.place c.loop-mask.number
          c.loop-mask.mask-index c.mask-item.result.now c.in_ok-ends.ends.items c.deref.result.now
          inv.paired count c.deref.ensures.value put.numbers put.ends
          (slot_at c.args.masks.now.keys c.as_slice-mask-items.result.now c.loop-mask.mask-index
          c.mask-item.result c.as_slice-mask-items.ensures.keys c.loop-mask-test.true
          c.mask-item.is)
          c.in_ok-ends.ensures.exactly c.in_ok-ends.ensures.ascending inv.row;
    }

pub returns-clause-row : goal.returns-clause-row
returns-clause-row g c =
    let spans = c.loop-mask.self in
    let place = c.args.place in
    let masks = masks_in c.args.masks.now in
    let all = length-map c.args.masks.now.keys (λ (mask : Bor Mask). mask.now) in
    let shown = ap length c.as_slice-mask-items.ensures.keys in
    let test = c.loop-mask-test.false in
    let end = c.loop-mask.auto.mask-index-end in
    let e : c.loop-mask.mask-index ≡ length masks = omega (arith, all, shown, test, end) in
    let to : c.len-to.result ≡ length spans.numbers.items = c.len-to.ensures ∙ spans.numbers.ok.0 in
    subst (λ n. IsRow spans
    (IsEndOf c.args.alphabet.now c.args.text.now c.args.applied.now masks place)
    (record { from = c.len-from.result; to = n }) (length masks)) (sym to)
    (subst (λ n. IsRow spans
    (IsEndOf c.args.alphabet.now c.args.text.now c.args.applied.now masks place)
    (record { from = c.len-from.result; to = length spans.numbers.items }) n) e
    c.loop-mask.invariant.row)
