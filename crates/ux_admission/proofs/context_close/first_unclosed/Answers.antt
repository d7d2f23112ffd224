use Rattle.std.proofs.Common.{arith}
use borrow.Author.Count.{below_more}
use Rattle.ux_admission.specs.BadContexts.{IsUnclosed}
use Rattle.ux_admission.proofs.EndMarksLemmas.{unclosed_inside}
use Rattle.ux_admission.proofs.context_close.first_unclosed.Goals as goal

pub loop-n-preserved : goal.loop-n-preserved
loop-n-preserved c =
    below_more (λ m. IsUnclosed c.args.leading.now m → ⊥) c.loop-n.n c.loop-n.invariant
    (λ u. let there = c.is_unclosed.ensures.1 u in
    let off = c.if-is_unclosed.false in cc)

pub returns : goal.returns
returns c = λ n u.
    let inside = unclosed_inside c.args.leading.now n u in
    c.loop-n.invariant n (omega arith) u
