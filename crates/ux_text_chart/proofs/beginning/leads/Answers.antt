use Rattle.std.proofs.Common.{◌↔◌, sym, subst}
use Rattle.std.specs.Prelude.{IsTrue}
use Rattle.ux_net.specs.declared.label.Label.{Label}
use Rattle.ux_text_chart.specs.Leading.{input_of}
use Rattle.ux_walk.specs.Settings.{masked_setting}
use Rattle.ux_text_chart.specs.Likely.{MayLeadTo}
use Rattle.ux_text_chart.proofs.beginning.leads.Goals as goal

pub returns-in-Call : goal.returns-in-Call
returns-in-Call c =
    subst (λ (x : Label). IsTrue c.is_listed.result
    ↔ MayLeadTo (input_of (masked_setting c.args.text.now)) c.args.parts.now c.args.row.now x
    c.args.at) (sym c.in-Call.is) c.is_listed.ensures
