use Rattle.std.proofs.Common.{◌∙◌, refl}
use Rattle.std.proofs.lemmas.Option.{slice_get_past, slice_get_read}
use Rattle.ux_folds.proofs.VariablesLemmas.{known_found, known_missing}
use Rattle.ux_folds.proofs.tables.Tables.known.Goals as goal

pub returns-in-Some : goal.returns-in-Some
returns-in-Some c = λ tokens names.
    let item = c.in-Some.ensures.lookup in
    known_found tokens names c.args.self.now c.args.kept c.args.place c.in-Some.known.now
    c.deref.result.now (λ knowns sound listed. c.deref.ensures.value
    ∙ c.in_ok-knowns.ensures knowns sound listed)
    (slice_get_read c.deref.result.now _ c.args.place c.in-Some.known.now refl item.3.0 item.1)

pub returns : goal.returns
returns c = λ tokens names. known_missing tokens names c.args.self.now c.args.kept
    c.args.place c.nothing_known.result c.deref.result.now (λ knowns sound listed.
    c.deref.ensures.value ∙ c.in_ok-knowns.ensures knowns sound listed)
    (slice_get_past c.deref.result.now c.args.place c.in-None.ensures.lookup.3)
