use Rattle.std.proofs.Common.{sym, ◌∙◌}
use Rattle.ux_dict.specs.Parts.{next_rank}
use Rattle.ux_dict.proofs.CutLemmas.{filter_ends}
use Rattle.ux_dict.proofs.parts.all_go_on.Goals as goal

pub returns-then-form_goes_on : goal.returns-then-form_goes_on
returns-then-form_goes_on c ends rises =
    let part = c.args.part.now in
    let some = c.in-Some-Some in
    filter_ends (next_rank part.len c.args.more.now) part.entries.now some.first.now some.last.now
    rises (sym some.ensures.value) (sym some.ensures'.value)
    (sym c.form_goes_on.ensures ∙ c.if-form_goes_on.true)
    (sym c.form_goes_on-then-form_goes_on.ensures ∙ ends)
