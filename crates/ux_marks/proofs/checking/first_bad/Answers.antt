use Rattle.std.proofs.Common.{arith}
use Rattle.ux_marks.proofs.BadLemmas.{first_here, graphs_all, graphs_next}
use Rattle.ux_marks.proofs.checking.first_bad.Goals as goal

pub returns-in-Some : goal.returns-in-Some
returns-in-Some c =
    let count = c.graphs-before-end.ensures.count in
    let low = c.loop-before-test.true in
    let found = c.in-Some.ensures in (
      omega arith,
      omega (arith, count, low),
      first_here c.args.net.now c.loop-before.before c.loop-before.invariant c.in-Some.node found.0
          found.1,
    )

pub loop-before-preserved : goal.loop-before-preserved
loop-before-preserved c =
    graphs_next c.args.net.now c.loop-before.before c.loop-before.invariant c.in_default.ensures

pub returns : goal.returns
returns c =
    let count = c.graphs-before-end.ensures.count in
    let past = c.loop-before-test.false in
    graphs_all c.args.net.now c.loop-before.before c.loop-before.invariant
    (omega (arith, count, past))
