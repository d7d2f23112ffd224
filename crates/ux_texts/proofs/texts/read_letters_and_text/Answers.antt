use Rattle.std.proofs.lemmas.Result.{err_from_is_err_and}
use Rattle.ux_plan.proofs.PlanSteps.{halts_at, halts_later}
use Rattle.ux_texts.proofs.texts.read_letters_and_text.Goals as goal

-- the letters were read, and the text stops the reading
pub returns-in_err-text-clause-err : goal.returns-in_err-text-clause-err
returns-in_err-text-clause-err g c =
    let r = c.from_residual-in_err-text in
    let p = err_from_is_err_and r.result r.ensures.1 in
    rw (p.1, p.2) (halts_later _ _ _ _ _ _ _ _ c.in_ok-alphabet.ensures.ok
    c.in_ok-alphabet.ensures.later (halts_at _ _ _ _ _ _ c.in_err-text.ensures.err))
