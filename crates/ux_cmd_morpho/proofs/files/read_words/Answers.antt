use Rattle.std.proofs.Common.{◌∙◌, sym}
use Rattle.std.proofs.lemmas.Bool.{false≢true}
use Rattle.ux_plan.proofs.PlanSteps.{halts_later, halts_test}
use Rattle.ux_cmd_morpho.proofs.ReadingLemmas.{long_stops}
use Rattle.ux_cmd_morpho.proofs.files.read_words.Goals as goal

-- the text was read, and a word is too long
pub returns-then-not-branch-clause-err : goal.returns-then-not-branch-clause-err
returns-then-not-branch-clause-err g c =
    let text = c.in_ok-text.ensures in
    let long = c.in_ok-are_words_short.ensures.long
    (λ yes. false≢true (sym c.if-not-branch.true ∙ yes)) in
    halts_later _ _ _ _ _ _ _ _ text.ok text.later
    (halts_test _ _ _ _ _ _ (long_stops c.args.name.now c.args.letters.now c.in_ok-text.text
    c.too_large.result long c.too_large.ensures))
