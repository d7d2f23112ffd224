use Rattle.ux_text_chart.proofs.LeadingLemmas.{masked, ended, not_ended}
use Rattle.ux_text_chart.proofs.leading.add_ends.Goals as goal

pub returns-in-Mask : goal.returns-in-Mask
returns-in-Mask c =
    let text = c.args.masked.now in
    masked text.alphabet.now text.text.now text.applied.now c.args.label.now c.in-Mask.mask
    c.args.at c.skip.result c.args.positions.now.items c.add_mask_ends.new.ends.items
    c.in-Mask.is c.skip.ensures c.in_ok-add_mask_ends.ensures

pub returns-in_ok-push : goal.returns-in_ok-push
returns-in_ok-push c =
    let text = c.args.masked.now in
    ended text.alphabet.now text.text.now text.applied.now c.args.label.now c.args.at
    c.args.positions.now.items c.push.new.self.items c.in-Some.end c.end_by.result c.in-Some.is
    c.in_default.not-Mask c.end_by.ensures c.in_ok-push.ensures.items

pub returns-in_default-end_by : goal.returns-in_default-end_by
returns-in_default-end_by c =
    let text = c.args.masked.now in
    not_ended text.alphabet.now text.text.now text.applied.now c.args.label.now c.args.at
    c.args.positions.now.items c.end_by.result c.in_default-end_by.is c.in_default.not-Mask
    c.end_by.ensures
