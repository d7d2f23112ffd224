use Rattle.std.proofs.Common.{ℕ, List, subst}
use Rattle.std.specs.Prelude.{IfOk}
use Rattle.ux_monitor.specs.Monitors.{tests_of}
use Rattle.ux_monitor.specs.Rules.{SatisfiesBy}
use Rattle.ux_subsets.specs.declared.automaton.Link.{Link}
use Rattle.ux_elag.specs.Numbers.{IsKept}
use Rattle.ux_elag.proofs.Chained.{kept-of}
use Rattle.ux_elag.proofs.keeping.keep_one.Goals as goal

pub returns-clause-kept : goal.returns-clause-kept
returns-clause-kept c =
    let monitor = c.args.rule.now.monitor in
    let last = c.args.source.last in
    subst (λ (ls : List Link). IfOk c.keep_satisfying.result
    (IsKept (SatisfiesBy monitor.rule (tests_of monitor.kinds c.args.rule.now.kinds.items)) last
    ls))
    c.as_slice-2.ensures.value
    (subst (λ (ks : List ℕ). IfOk c.keep_satisfying.result
    (IsKept (SatisfiesBy monitor.rule (tests_of monitor.kinds ks)) last c.as_slice-2.result.now))
    c.as_slice.ensures.value
    (kept-of (SatisfiesBy monitor.rule (tests_of monitor.kinds c.as_slice.result.now)) last
    c.as_slice-2.result.now c.keep_satisfying.result c.keep_satisfying.ensures.left
    c.keep_satisfying.ensures.nothing))
