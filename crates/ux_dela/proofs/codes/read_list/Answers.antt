use Rattle.std.proofs.Common.{refl}
use Rattle.std.proofs.lemmas.Result.{err_from_is_err_and}
use Rattle.ux_dela.specs.Signs.{is_code_sign}
use Rattle.ux_dela.specs.Reading.{StopsList}
use Rattle.ux_dela.specs.declared.part.Stop.TheVariants.{Code}
use Rattle.ux_dela.proofs.CutLemmas.{is_none, is_some_text}
use Rattle.ux_dela.proofs.RunLemmas.{ends_code, fault_of}
use Rattle.ux_dela.proofs.ListLemmas.{behind_gram, list_read, gram_stops, sem_stops, infl_stops}
use Rattle.ux_dela.proofs.codes.read_list.Goals as goal

pub returns-then-is_empty-clause-err : goal.returns-then-is_empty-clause-err
returns-then-is_empty-clause-err c =
    let gram = c.split_part.result.0.now in
    gram_stops c.args.text.now gram c.split_part.result.1.now c.requires c.split_part.ensures.split
    (is_none c.is_empty.result gram c.is_empty.ensures c.if-is_empty.true)

pub read_run-requires-clause-closed : goal.read_run-requires-clause-closed
read_run-requires-clause-closed c =
    behind_gram c.args.text.now c.split_part.result.0.now c.split_part.result.1.now is_code_sign
    c.requires c.split_part.ensures.split

pub read_run-requires-clause-ends : goal.read_run-requires-clause-ends
read_run-requires-clause-ends c =
    let behind = c.split_part.result.1.now in
    let closed =
    behind_gram c.args.text.now c.split_part.result.0.now behind is_code_sign c.requires
    c.split_part.ensures.split in
    ends_code Code behind closed c.split_part.ensures.split.ends

pub returns-in_err-sem-clause-err : goal.returns-in_err-sem-clause-err
returns-in_err-sem-clause-err c =
    let p = err_from_is_err_and c.from_residual.result c.from_residual.ensures.1 in
    let gram = c.split_part.result.0.now in
    let some = is_some_text c.is_empty.result gram c.is_empty.ensures c.if-is_empty.false in
    rw (p.1, p.2) (fault_of _ (StopsList c.args.text.now)
    (λ rest. sem_stops c.args.text.now gram c.split_part.result.1.now rest
    c.split_part.ensures.split some) _ c.in_err-sem.ensures.err)

pub returns-in_err-infl-clause-err : goal.returns-in_err-infl-clause-err
returns-in_err-infl-clause-err c =
    let r = c.from_residual-in_err-infl in
    let p = err_from_is_err_and r.result r.ensures.1 in
    let gram = c.split_part.result.0.now in
    let some = is_some_text c.is_empty.result gram c.is_empty.ensures c.if-is_empty.false in
    rw (p.1, p.2) (fault_of _ (StopsList c.args.text.now)
    (λ rest. infl_stops c.args.text.now gram c.split_part.result.1.now c.in_ok-sem.sem.rest.now
    rest c.in_ok-sem.sem.codes c.split_part.ensures.split some c.in_ok-sem.ensures.ok) _
    c.in_err-infl.ensures.err)

pub returns-clause-ok : goal.returns-clause-ok
returns-clause-ok c =
    let gram = c.split_part.result.0.now in
    let some = is_some_text c.is_empty.result gram c.is_empty.ensures c.if-is_empty.false in
    list_read c.args.text.now gram c.split_part.result.1.now c.in_ok-sem.sem.rest.now
    c.in_ok-infl.infl.rest.now c.in_ok-sem.sem.codes c.in_ok-infl.infl.codes _
    c.split_part.ensures.split some c.in_ok-sem.ensures.ok c.in_ok-infl.ensures.ok
    c.in_ok-plain.ensures refl refl
