use Rattle.std.proofs.Common.{arith, ◌<◌}
use Rattle.ux_digraph.proofs.CheckingLemmas.{says_true, says_false, passed_more, passed_all, one_fails}
use Rattle.ux_digraph.proofs.checking.are_below.Goals as goal

pub returns-then-number-bound : goal.returns-then-number-bound
returns-then-number-bound c =
    says_false (one_fails (λ x. x < c.args.bound) c.args.numbers.now c.loop-number.number-index 0
    c.loop-number-test.true (λ l. let h = c.if-number-bound.true in omega arith))

pub loop-number-preserved : goal.loop-number-preserved
loop-number-preserved c =
    passed_more (λ x. x < c.args.bound) c.args.numbers.now c.loop-number.number-index 0
    c.loop-number-test.true c.loop-number.invariant c.if-number-bound.false

pub returns : goal.returns
returns c =
    says_true (passed_all (λ x. x < c.args.bound) c.args.numbers.now c.loop-number.number-index
    c.loop-number-test.false c.loop-number.invariant)
