use Rattle.std.proofs.Common.{arith, ◌∙◌, refl, ap}
use Rattle.ux_subsets.specs.Agenda.{row_from}
use Rattle.ux_subsets.proofs.AgendaLemmas.{row_added}
use Rattle.ux_subsets.proofs.agenda.Agenda.pad.Goals as goal

pub loop-alloc-init : goal.loop-alloc-init
loop-alloc-init c = record { due = refl; same = λ k. refl }

pub loop-alloc-smaller : goal.loop-alloc-smaller
loop-alloc-smaller c =
    let len = c.in_ok-push_back.ensures.len in
    let was = c.len.ensures in
    let test = c.loop-alloc-test.true in
    omega (arith, len, was, test)

pub loop-alloc-preserved : goal.loop-alloc-preserved
loop-alloc-preserved c =
    let due = c.loop-alloc.self.due in
    let old = c.loop-alloc.self.rows.items in
    let row = c.new.result in record {
      due = c.loop-alloc.invariant.due;
      same = λ k. ap (λ rows. row_from due rows k) c.in_ok-push_back.ensures.items ∙ (row_added due old row c.new.ensures.items k ∙ c.loop-alloc.invariant.same k);
    }

pub returns-clause-due : goal.returns-clause-due
returns-clause-due c = c.loop-alloc.invariant.due

pub returns-clause-same : goal.returns-clause-same
returns-clause-same c = c.loop-alloc.invariant.same
