use Rattle.std.proofs.Common.{ap, subst, sym, ◌∙◌}
use Rattle.std.specs.Prelude.{Some}
use Rattle.std.proofs.lemmas.Option.{slice_get-get_or}
use Rattle.ux_elag.proofs.StepsLemmas.{ArePassedTo, passed-none, passed-more, passed-whole}
use Rattle.ux_elag.proofs.passing.passed_tests.Goals as goal

pub loop-index-init : goal.loop-index-init
loop-index-init c =
    subst (ArePassedTo c.args.steps.now c.args.reading.now 0) (sym c.new-tests.ensures.items)
    (passed-none c.args.steps.now c.args.reading.now)

pub loop-index-preserved : goal.loop-index-preserved
loop-index-preserved c =
    let step = c.index-steps-index.result in
    passed-more c.args.steps.now c.args.reading.now c.loop-index.index step c.loop-index.tests.items
    c.note_passed.new.tests.items
    (slice_get-get_or c.args.steps.now c.loop-index.index step c.loop-index-test.true
    ∙ ap Some (sym c.index-steps-index.is)) c.loop-index.invariant c.in_ok-note_passed.ensures

pub returns : goal.returns
returns c =
    passed-whole c.args.steps.now c.args.reading.now c.loop-index.index c.loop-index.tests.items
    c.loop-index-test.false c.loop-index.invariant
