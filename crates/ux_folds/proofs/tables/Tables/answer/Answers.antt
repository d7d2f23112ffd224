use Rattle.std.proofs.lemmas.Result.{IfOk-weaker}
use Rattle.ux_folds.specs.Names.{asked_as}
use Rattle.ux_folds.proofs.PuttingLemmas.{answered, unanswered}
use Rattle.ux_folds.proofs.tables.Tables.answer.Goals as goal

pub returns-in_default : goal.returns-in_default
returns-in_default c = λ tokens. unanswered tokens c.args.novar c.args.names.now c.args.self.now
    c.args.kept c.args.asked.now (asked_as c.asked_by-question.result) c.name.result.now
    c.asked_by-question.ensures c.name.ensures c.in_default.ensures

pub returns : goal.returns
returns c = IfOk-weaker c.answer_by.result _ _ (λ next by tokens.
    answered tokens c.args.novar c.args.names.now c.args.self.now c.answer_by.new.self c.args.kept
    c.args.asked.now next (asked_as c.asked_by-question.result) c.name.result.now c.in-Some.place
    c.in_ok-known.known c.asked_by-question.ensures c.name.ensures c.in-Some.ensures
    (c.in_ok-known.ensures tokens c.args.names.now) by) c.answer_by.ensures
