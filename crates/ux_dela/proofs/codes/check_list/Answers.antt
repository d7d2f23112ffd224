use Rattle.std.proofs.lemmas.Result.{err_from_is_err_and}
use Rattle.ux_dela.specs.Signs.{is_code_sign}
use Rattle.ux_dela.specs.declared.part.Stop.TheVariants.{Code}
use Rattle.ux_dela.proofs.CutLemmas.{is_none, is_some_text}
use Rattle.ux_dela.proofs.RunLemmas.{ends_code}
use Rattle.ux_dela.proofs.ListLemmas.{behind_gram, list_there, gram_stops, sem_stops, infl_stops}
use Rattle.ux_dela.proofs.codes.check_list.Goals as goal

pub returns-then-is_empty-clause-err : goal.returns-then-is_empty-clause-err
returns-then-is_empty-clause-err c =
    let gram = c.split_part.result.0.now in
    gram_stops c.args.text.now gram c.split_part.result.1.now c.requires c.split_part.ensures.split
    (is_none c.is_empty.result gram c.is_empty.ensures c.if-is_empty.true)

pub behind_run-requires-clause-closed : goal.behind_run-requires-clause-closed
behind_run-requires-clause-closed c =
    behind_gram c.args.text.now c.split_part.result.0.now c.split_part.result.1.now is_code_sign
    c.requires c.split_part.ensures.split

pub behind_run-requires-clause-ends : goal.behind_run-requires-clause-ends
behind_run-requires-clause-ends c =
    let behind = c.split_part.result.1.now in
    let closed =
    behind_gram c.args.text.now c.split_part.result.0.now behind is_code_sign c.requires
    c.split_part.ensures.split in
    ends_code Code behind closed c.split_part.ensures.split.ends

pub returns-in_err-rest-clause-err : goal.returns-in_err-rest-clause-err
returns-in_err-rest-clause-err c =
    let p = err_from_is_err_and c.from_residual.result c.from_residual.ensures.1 in
    let gram = c.split_part.result.0.now in
    let some = is_some_text c.is_empty.result gram c.is_empty.ensures c.if-is_empty.false in
    rw (p.1, p.2) (sem_stops c.args.text.now gram c.split_part.result.1.now _
    c.split_part.ensures.split some c.in_err-rest.ensures.err)

pub returns-in_err-behind_run-clause-err : goal.returns-in_err-behind_run-clause-err
returns-in_err-behind_run-clause-err c =
    let r = c.from_residual-in_err-behind_run in
    let p = err_from_is_err_and r.result r.ensures.1 in
    let gram = c.split_part.result.0.now in
    let some = is_some_text c.is_empty.result gram c.is_empty.ensures c.if-is_empty.false in
    let sem = c.in_ok-rest.ensures.ok in
    rw (p.1, p.2) (infl_stops c.args.text.now gram c.split_part.result.1.now c.in_ok-rest.rest.now
    _ sem.0 c.split_part.ensures.split some sem.1 c.in_err-behind_run.ensures.err)

pub returns-clause-ok : goal.returns-clause-ok
returns-clause-ok c =
    let gram = c.split_part.result.0.now in
    let some = is_some_text c.is_empty.result gram c.is_empty.ensures c.if-is_empty.false in
    list_there c.args.text.now gram c.split_part.result.1.now c.in_ok-rest.rest.now
    c.in_ok-behind_run.field-0.now c.split_part.ensures.split some c.in_ok-rest.ensures.ok
    c.in_ok-behind_run.ensures.ok
