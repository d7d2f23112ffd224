use Rattle.std.proofs.Common.{refl}
use Rattle.std.proofs.lemmas.Option.{slice_get_read}
use Rattle.ux_chart.proofs.Rising.{none_else}
use Rattle.ux_chart.proofs.table.find.Goals as goal

pub returns-in_default-clause-none : goal.returns-in_default-clause-none
returns-in_default-clause-none c =
    let item = c.in-Some.ensures.lookup in
    none_else c.args.answers.now c.requires c.place_of-place.result c.args.part
    c.in-Some.answer.now (slice_get_read c.args.answers.now _ _ _ refl item.3.0 item.1)
    c.if-answer-part.false c.place_of-place.ensures.before c.place_of-place.ensures.after
