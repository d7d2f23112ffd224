use Rattle.std.proofs.Common.{◌↔◌, Bool, sym, subst}
use Rattle.std.specs.Prelude.{IsTrue}
use Rattle.ux_text_chart.specs.Leading.{MayLead, input_of}
use Rattle.ux_walk.specs.Settings.{masked_setting}
use Rattle.ux_text_chart.proofs.LeadingLemmas.{mask_test, tried_test}
use Rattle.ux_text_chart.proofs.leading.may_lead.Goals as goal

pub returns-in-Mask : goal.returns-in-Mask
returns-in-Mask c =
    let text = c.args.masked.now in
    mask_test text.alphabet.now text.text.now text.applied.now c.args.label.now c.in-Mask.mask
    c.args.at c.skip.result c.accepts_some.result c.in-Mask.is c.skip.ensures
    c.accepts_some.ensures

pub returns-in-CaseFolded : goal.returns-in-CaseFolded
returns-in-CaseFolded c =
    let text = c.args.masked.now in
    subst (λ (b : Bool). IsTrue b
    ↔ MayLead (input_of (masked_setting text)) c.args.label.now c.args.at) (sym c.is_some.ensures)
    (tried_test text.alphabet.now text.text.now text.applied.now c.args.label.now c.in-CaseFolded.is
    c.end_by.result c.args.at c.end_by.ensures)
