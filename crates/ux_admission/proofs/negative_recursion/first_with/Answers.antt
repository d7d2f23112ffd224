use Rattle.std.proofs.Common.{◌≡◌, true, false, refl}
use Rattle.ux_admission.proofs.CircularLemmas.{first_same, first_more}
use Rattle.ux_admission.proofs.negative_recursion.first_with.Goals as goal

pub returns-then-not-is_circular : goal.returns-then-not-is_circular
returns-then-not-is_circular c = λ links is.
    first_same links c.args.numbers.now c.args.link c.args.first is
    (λ ring. let never : false ≡ true = c.if-not-is_circular.ensures.1 ring in absurd (cc))

pub returns : goal.returns
returns c = λ links is.
    first_more links c.args.numbers.now c.args.link c.args.first is
    (c.if-not-is_circular.ensures.0 refl) c.lesser.result
    c.lesser.ensures.one c.lesser.ensures.graph c.lesser.ensures.first
