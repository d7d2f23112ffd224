use Rattle.std.proofs.Common.{ℕ, List, ◌↔◌, subst}
use Rattle.std.specs.Prelude.{Contains}
use Rattle.std.proofs.lemmas.List.{take_all}
use Rattle.ux_subsets.proofs.InsertingLemmas.{Contains-insert}
use Rattle.ux_monitor.proofs.SetsLemmas.{taken_more, taken_none}
use Rattle.ux_monitor.proofs.watching.set_of.Goals as goal

pub loop-test-init : goal.loop-test-init
loop-test-init c = taken_none c.args.tests.now c.new-set.result.keys c.new-set.ensures.empty

pub loop-test-preserved : goal.loop-test-preserved
loop-test-preserved c =
    taken_more c.args.tests.now c.loop-test.set.keys c.insert.new.self.keys c.loop-test.test-index 0
    c.loop-test-test.true (Contains-insert _ _ _ c.in_ok-insert.ensures.updates)
    c.loop-test.invariant

pub returns : goal.returns
returns c = λ t.
    subst (λ (xs : List ℕ). Contains c.loop-test.set.keys t ↔ Contains xs t)
    (take_all c.loop-test.test-index c.args.tests.now c.loop-test-test.false)
    (c.loop-test.invariant t)
