use Rattle.std.proofs.Common.{List, false, subst, sym, take}
use Rattle.std.proofs.lemmas.List.{take_more, take_all}
use Rattle.ux_admission.specs.declared.uses.Link.{Link}
use Rattle.ux_admission.specs.Uses.{IsFirstCircular}
use Rattle.ux_admission.proofs.negative_recursion.first_circular.Goals as goal

pub loop-link-preserved : goal.loop-link-preserved
loop-link-preserved c =
    let first : Link = record { graph = 0; from = 0; to = 0; is_negative = false } in
    subst (λ (links : List Link).
    IsFirstCircular links c.args.numbers.now c.first_with-first.result)
    (sym (take_more c.args.links.now c.loop-link.link-index first c.loop-link-test.true))
    (c.first_with-first.ensures (take c.loop-link.link-index c.args.links.now)
    c.loop-link.invariant)

pub returns : goal.returns
returns c =
    subst (λ (links : List Link). IsFirstCircular links c.args.numbers.now c.loop-link.first)
    (take_all c.loop-link.link-index c.args.links.now c.loop-link-test.false)
    c.loop-link.invariant
