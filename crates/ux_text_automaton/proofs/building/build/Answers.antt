use Rattle.std.proofs.Common.{arith, sym, ◌∙◌, ◌+◌, ap, subst}
use Rattle.std.specs.Prelude.{Some}
use Rattle.std.proofs.lemmas.Option.{slice_get-get_or}
use Rattle.ux_text_automaton.proofs.BuildLemmas.{AreBuilt, built_more}
use Rattle.ux_text_automaton.proofs.building.build.Goals as goal

pub sentence-requires-clause-run : goal.sentence-requires-clause-run
sentence-requires-clause-run c =
    (c.in_ok-runs.ensures.runs.exact c.index.result.now).0
    (c.loop-place.place, omega arith, sym c.index.ensures)

pub loop-place-preserved : goal.loop-place-preserved
loop-place-preserved c =
    let runs = c.in_ok-runs.runs.items in
    let place = c.loop-place.place in
    let run = c.index.result.now in
    subst (AreBuilt c.args.text.now c.args.tables.now runs (place + 1))
    (sym c.in_ok-push.ensures.items)
    (built_more c.args.text.now c.args.tables.now runs place c.loop-place.sentences.items run
    c.in_ok-sentence.field-0
    (slice_get-get_or runs place run (omega arith) ∙ ap Some (sym c.index.ensures))
    c.in_ok-sentence.ensures.sentence c.loop-place.invariant)
