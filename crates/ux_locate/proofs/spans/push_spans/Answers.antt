use Rattle.std.proofs.Common.{◌++◌, ◌∙◌, List, ℕ, map, ap, arith, get_or}
use Rattle.std.proofs.lemmas.Grind.{common_steps}
use Rattle.std.proofs.lemmas.List.{take_all}
use Rattle.std.proofs.lemmas.List.Elements.{Contains-get_or}
use Rattle.ux_locate.specs.Finding.{span_to}
use Rattle.ux_locate.proofs.spans.push_spans.Goals as goal

pub overflow_sub-end : goal.overflow_sub-end
overflow_sub-end c =
    let later = c.requires (get_or c.args.ends.now c.loop-end.end-index 0)
    (Contains-get_or c.args.ends.now c.loop-end.end-index 0 c.loop-end-test.true) in
    omega (arith, later)

pub returns : goal.returns
returns c = c.loop-end.invariant ∙ ap (λ (es : List ℕ). c.args.spans.now.items ++ map
    (span_to c.args.start) es) (take_all c.loop-end.end-index c.args.ends.now c.loop-end-test.false)

pub loop-end-preserved : goal.loop-end-preserved
loop-end-preserved c = grind (arith, common_steps)
