use Rattle.std.proofs.lemmas.Result.{err_from_is_err_and}
use Rattle.ux_image_lists.proofs.FieldLemmas.{still}
use Rattle.ux_image_lists.proofs.ListLemmas.{list_more, list_refused}
use Rattle.ux_image_lists.proofs.lists.read_each_list.Goals as goal

pub returns-in_err-many-clause-err : goal.returns-in_err-many-clause-err
returns-in_err-many-clause-err c =
    let failed = c.from_residual in
    let p = err_from_is_err_and failed.result failed.ensures.1 in
    rw (p.1, p.2) (still c.in_err-many.ensures.err (λ r.
    list_refused c.args.version c.args.shortest.now c.loop-letters.letters-index
    c.loop-letters.first c.args.rest.now.bytes.now c.loop-letters.rest.bytes.now
    c.loop-letters.all.keys c.loop-letters.invariant.0 c.loop-letters.invariant.1
    c.loop-letters-test.true c.in_err-many.field-0.0 r))

pub loop-letters-preserved : goal.loop-letters-preserved
loop-letters-preserved c =
    let next = c.in_ok-many.ensures.ok in
    list_more c.args.version c.args.shortest.now c.loop-letters.letters-index
    c.loop-letters.first c.args.rest.now.bytes.now c.loop-letters.rest.bytes.now
    c.loop-letters.all.keys c.loop-letters.invariant.0 c.loop-letters.invariant.1
    c.loop-letters-test.true next.0 c.read_next_list.new.rest.bytes.now
    c.read_next_list.new.all.keys c.in_ok-many.many c.in_ok-first.first next.1 next.2 next.3
    c.in_ok-first.ensures
