use Rattle.std.proofs.Common.{sym, subst}
use Rattle.std.specs.Prelude.{Contains}
use Rattle.std.proofs.lemmas.List.Elements.{Contains-get_or}
use Rattle.ux_monitor.specs.declared.owing.Obligation.{Obligation}
use Rattle.ux_monitor.proofs.OwingLemmas.{none_later, one_later, all_later}
use Rattle.ux_monitor.proofs.owing.owed_later.Goals as goal

pub loop-one-init : goal.loop-one-init
loop-one-init c = none_later c.args.steps.now c.args.ends.now c.args.passed.now.keys c.args.owed.now c.new-next.result.keys c.new-next.ensures.empty

pub loop-one-preserved : goal.loop-one-preserved
loop-one-preserved c =
    one_later c.args.steps.now c.args.ends.now c.args.passed.now.keys c.args.owed.now c.loop-one.next.keys c.note_later.new.next.keys c.loop-one.one-index c.one-item.result
    c.loop-one-test.true c.one-item.is
    (subst (λ (x : Obligation). Contains c.args.owed.now x) (sym c.one-item.is) (Contains-get_or c.args.owed.now c.loop-one.one-index c.one-item.result c.loop-one-test.true))
    c.loop-one.invariant c.in_ok-note_later.ensures

pub returns : goal.returns
returns c =
    all_later c.args.steps.now c.args.ends.now c.args.passed.now.keys c.args.owed.now c.loop-one.next.keys c.loop-one.one-index c.loop-one-test.false c.loop-one.invariant
