use Rattle.std.proofs.Common.{[], List, ap, subst}
use Rattle.std.specs.Prelude.{IfOk}
use Rattle.std.proofs.lemmas.Result.{IfOk-weaker}
use Rattle.ux_base.proofs.Lists.{nothing_in}
use Rattle.ux_monitor.specs.Monitors.{tests_of}
use Rattle.ux_monitor.specs.Rules.{Rule, SatisfiesBy}
use Rattle.ux_subsets.specs.declared.automaton.Link.{Link}
use Rattle.ux_elag.specs.Numbers.{IsKept}
use Rattle.ux_elag.specs.Prepared.{SatisfiesAll}
use Rattle.ux_elag.proofs.Chained.{kept-of, kept-same}
use Rattle.ux_elag.proofs.LeaveLemmas.{no-rule}
use Rattle.ux_elag.proofs.keeping.keep_all.Goals as goal

pub returns : goal.returns
returns c =
    let monitor = c.in_ok-monitor.monitor in
    let table = tests_of monitor.kinds [] in
    let last = c.args.source.last in
    let none = ap (λ (r : Rule). r.steps) c.in_ok-monitor.ensures.rule in
    subst (λ (ls : List Link). IfOk c.keep_satisfying.result (IsKept (SatisfiesAll []) last ls))
    c.as_slice.ensures.value
    (IfOk-weaker c.keep_satisfying.result _ _
    (λ kept is. kept-same (SatisfiesBy monitor.rule table) (SatisfiesAll []) last
    c.as_slice.result.now kept
    (λ word. (
      λ so rule has. absurd (nothing_in has),
      λ each. no-rule monitor.rule table none
          word,
    )) is)
    (kept-of (SatisfiesBy monitor.rule table) last c.as_slice.result.now c.keep_satisfying.result
    c.keep_satisfying.ensures.left c.keep_satisfying.ensures.nothing))
