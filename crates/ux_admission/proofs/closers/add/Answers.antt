use Rattle.ux_admission.proofs.FindsLemmas.{finds_inserted, inserted_new, inserted_old}
use Rattle.ux_admission.proofs.FindingLemmas.{rows_added, rows_same}
use Rattle.ux_admission.proofs.closers.add.Goals as goal

pub returns-in_ok-put-clause-rows : goal.returns-in_ok-put-clause-rows
returns-in_ok-put-clause-rows c =
    rows_added c.args.found.now.keys c.insert.new.set.keys c.args.rows.now.items
    c.put.new.rows.items c.args.pair c.requires.place
    (inserted_new c.args.found.now.keys c.insert.new.set.keys c.args.pair c.in_ok-insert.field-0
    c.in_ok-insert.ensures c.if-branch.true) c.in_ok-put.ensures.put c.requires.rows

pub returns-in_ok-put-clause-finds : goal.returns-in_ok-put-clause-finds
returns-in_ok-put-clause-finds c =
    finds_inserted c.args.found.now.keys c.insert.new.set.keys c.args.pair c.in_ok-insert.field-0
    c.in_ok-insert.ensures

pub returns-else-branch-clause-rows : goal.returns-else-branch-clause-rows
returns-else-branch-clause-rows c =
    rows_same c.args.found.now.keys c.insert.new.set.keys c.args.rows.now.items
    (inserted_old c.args.found.now.keys c.insert.new.set.keys c.args.pair c.in_ok-insert.field-0
    c.in_ok-insert.ensures c.if-branch.false) c.requires.rows

pub returns-else-branch-clause-finds : goal.returns-else-branch-clause-finds
returns-else-branch-clause-finds c =
    finds_inserted c.args.found.now.keys c.insert.new.set.keys c.args.pair c.in_ok-insert.field-0
    c.in_ok-insert.ensures
