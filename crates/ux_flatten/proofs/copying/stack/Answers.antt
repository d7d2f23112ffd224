use Rattle.std.proofs.Common.{arith, ◌≡◌, ◌++◌, ◌∙◌, List, [], sym, ap, append-nil, reverse}
use Rattle.std.proofs.lemmas.Grind.{common_steps}
use Rattle.ux_flatten.specs.declared.pending.Pending.{Pending}
use Rattle.ux_flatten.proofs.MakingLemmas.{stack_more}
use Rattle.ux_flatten.proofs.copying.stack.Goals as goal

pub loop-copy-preserved : goal.loop-copy-preserved
loop-copy-preserved c =
    stack_more c.in-Some.copy c.loop-copy.pending.items c.push.new.self.items c.pop.new.self.items
    c.loop-copy.inner.items (c.args.pending.now.items ++ reverse c.args.inner.items)
    c.in-Some.ensures.items c.loop-copy.invariant c.in_ok-push.ensures.items

pub returns : goal.returns
returns c =
    let none : c.loop-copy.inner.items ≡ [] = grind (arith, common_steps) in
    sym (append-nil c.loop-copy.pending.items)
    ∙ (ap (λ (l : List Pending). c.loop-copy.pending.items ++ reverse l) (sym none)
    ∙ c.loop-copy.invariant)
