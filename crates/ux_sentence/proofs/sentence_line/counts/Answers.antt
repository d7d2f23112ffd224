use Rattle.std.proofs.Common.{arith, sym, ◌∙◌}
use Rattle.std.specs.Fmt.{decimal}
use Rattle.ux_sentence.proofs.NumbersLemmas.{same_number}
use Rattle.ux_sentence.proofs.sentence_line.counts.Goals as goal

pub returns-in_err-links : goal.returns-in_err-links
returns-in_err-links c =
    rw c.from_residual-in_err-links.ensures
    (λ s l small few two is.
    (let same = same_number s c.in_ok-states.states (decimal l) c.in_ok-states.behind.now small
    c.in_ok-states.ensures.fits (sym is ∙ c.in_ok-states.ensures.value) in
    c.in_err-links.ensures.value l few (sym same.1)))

pub returns-then-states-lt2 : goal.returns-then-states-lt2
returns-then-states-lt2 c = λ s l small few two is.
    let same = same_number s c.in_ok-states.states (decimal l) c.in_ok-states.behind.now small
    c.in_ok-states.ensures.fits (sym is ∙ c.in_ok-states.ensures.value) in
    omega (arith, same.0, two, c.if-states-lt2.true)
