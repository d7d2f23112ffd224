use Rattle.ux_sentence.proofs.NumbersLemmas.{not_split, split_number}
use Rattle.ux_sentence.proofs.number.number_field.Goals as goal

pub returns-in_err-front-clause-value : goal.returns-in_err-front-clause-value
returns-in_err-front-clause-value c =
    rw c.from_residual.ensures
    (λ n rest small is. not_split c.args.text.now c.split_once.result c.split_once.ensures.cases
    c.in_err-front.was n rest is)

pub returns-in_err-number-clause-value : goal.returns-in_err-number-clause-value
returns-in_err-number-clause-value c =
    rw c.from_residual-in_err-number.ensures
    (λ n rest small is. c.in_err-number.ensures.value n small
    (split_number c.args.text.now (c.in_ok-front.front, c.in_ok-front.behind)
    c.in_ok-front.ensures.cases n rest small is))
