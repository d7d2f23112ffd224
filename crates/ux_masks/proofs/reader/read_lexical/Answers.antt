use Rattle.std.proofs.lemmas.Result.{err_from_is_err_and}
use Rattle.ux_masks.proofs.LexicalLemmas.{lexical_plain, lexical_negated, fails_plain, fails_negated}
use Rattle.ux_masks.proofs.reader.read_lexical.Goals as goal

pub returns-in_err-read_body-in-Some-clause-err : goal.returns-in_err-read_body-in-Some-clause-err
returns-in_err-read_body-in-Some-clause-err c =
    let p = err_from_is_err_and c.from_residual.result c.from_residual.ensures.1 in
    rw (p.1, p.2) (fails_negated c.args.text.now c.in-Some.body.now _ c.in-Some.ensures
    c.in_err-read_body-in-Some.ensures.err)

pub returns-in_err-read_body-in-None-clause-err : goal.returns-in_err-read_body-in-None-clause-err
returns-in_err-read_body-in-None-clause-err c =
    let r = c.from_residual-in_err-read_body-in-None in
    let p = err_from_is_err_and r.result r.ensures.1 in
    rw (p.1, p.2) (fails_plain c.args.text.now _ c.in-None.ensures
    c.in_err-read_body-in-None.ensures.err)

pub returns-in_ok-read_body-in-Some-clause-ok : goal.returns-in_ok-read_body-in-Some-clause-ok
returns-in_ok-read_body-in-Some-clause-ok c =
    lexical_negated c.args.text.now c.in-Some.body.now c.in_ok-read_body-in-Some.field-0
    c.in-Some.ensures c.in_ok-read_body-in-Some.ensures.ok

pub returns-in_ok-read_body-in-None-clause-ok : goal.returns-in_ok-read_body-in-None-clause-ok
returns-in_ok-read_body-in-None-clause-ok c =
    lexical_plain c.args.text.now c.in_ok-read_body-in-None.field-0
    c.in_ok-read_body-in-None.ensures.ok
