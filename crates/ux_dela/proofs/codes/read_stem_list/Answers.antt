use Rattle.std.proofs.Common.{refl}
use Rattle.std.proofs.lemmas.Result.{err_from_is_err_and}
use Rattle.ux_dela.specs.Signs.{is_plus}
use Rattle.ux_dela.specs.Reading.{StopsStemList}
use Rattle.ux_dela.specs.declared.part.Stop.TheVariants.{Plus}
use Rattle.ux_dela.proofs.CutLemmas.{is_none, is_some_text}
use Rattle.ux_dela.proofs.RunLemmas.{ends_code, fault_of}
use Rattle.ux_dela.proofs.ListLemmas.{behind_gram, stem_list_read, class_stops, stem_sem_stops}
use Rattle.ux_dela.proofs.codes.read_stem_list.Goals as goal

pub returns-then-is_empty-clause-err : goal.returns-then-is_empty-clause-err
returns-then-is_empty-clause-err c =
    let class = c.split_part.result.0.now in
    class_stops c.args.text.now class c.split_part.result.1.now c.requires
    c.split_part.ensures.split
    (is_none c.is_empty.result class c.is_empty.ensures c.if-is_empty.true)

pub read_run-requires-clause-closed : goal.read_run-requires-clause-closed
read_run-requires-clause-closed c =
    behind_gram c.args.text.now c.split_part.result.0.now c.split_part.result.1.now is_plus
    c.requires c.split_part.ensures.split

pub read_run-requires-clause-ends : goal.read_run-requires-clause-ends
read_run-requires-clause-ends c =
    let behind = c.split_part.result.1.now in
    let closed =
    behind_gram c.args.text.now c.split_part.result.0.now behind is_plus c.requires
    c.split_part.ensures.split in
    ends_code Plus behind closed c.split_part.ensures.split.ends

pub returns-in_err-sem-clause-err : goal.returns-in_err-sem-clause-err
returns-in_err-sem-clause-err c =
    let p = err_from_is_err_and c.from_residual.result c.from_residual.ensures.1 in
    let class = c.split_part.result.0.now in
    let some = is_some_text c.is_empty.result class c.is_empty.ensures c.if-is_empty.false in
    rw (p.1, p.2) (fault_of _ (StopsStemList c.args.text.now)
    (λ rest. stem_sem_stops c.args.text.now class c.split_part.result.1.now rest
    c.split_part.ensures.split some) _ c.in_err-sem.ensures.err)

pub returns-clause-ok : goal.returns-clause-ok
returns-clause-ok c =
    let class = c.split_part.result.0.now in
    let some = is_some_text c.is_empty.result class c.is_empty.ensures c.if-is_empty.false in
    stem_list_read c.args.text.now class c.split_part.result.1.now c.in_ok-sem.sem.rest.now
    c.in_ok-sem.sem.codes _
    c.split_part.ensures.split some c.in_ok-sem.ensures.ok c.in_ok-plain.ensures refl
