use Rattle.std.proofs.Common.{ℕ, List, subst}
use Rattle.std.specs.Prelude.{IfOk}
use Rattle.ux_monitor.specs.Monitors.{tests_of}
use Rattle.ux_monitor.specs.Rules.{SatisfiesBy}
use Rattle.ux_elag.specs.Numbers.{IsKept}
use Rattle.ux_elag.proofs.Chained.{kept-of}
use Rattle.ux_elag.proofs.keeping.keep_again.Goals as goal

pub returns-clause-kept : goal.returns-clause-kept
returns-clause-kept c =
    let monitor = c.args.rule.now.monitor in
    let source = c.args.source in
    subst (λ (ks : List ℕ). IfOk c.keep_satisfying_again.result
    (IsKept (SatisfiesBy monitor.rule (tests_of monitor.kinds ks)) source.last source.links.items))
    c.as_slice.ensures.value
    (kept-of (SatisfiesBy monitor.rule (tests_of monitor.kinds c.as_slice.result.now)) source.last
    source.links.items c.keep_satisfying_again.result c.keep_satisfying_again.ensures.left
    c.keep_satisfying_again.ensures.nothing)
