use Rattle.std.proofs.Common.{arith, below_more, ◌≤◌}
use Rattle.std.proofs.lemmas.Option.{slice_get_within}
use Rattle.ux_lexical_tables.specs.Accepting.{IsDigitAt}
use Rattle.ux_lexical_tables.proofs.digits.digits_end.Goals as goal

pub loop-place-init : goal.loop-place-init
loop-place-init c = λ k from below. absurd (omega (arith, from, below))

pub loop-place-preserved : goal.loop-place-preserved
loop-place-preserved c = λ k from below.
    below_more (λ p. c.args.i ≤ p → IsDigitAt c.args.text.now p) c.loop-place.place
    (λ p lt le. c.loop-place.invariant p le lt)
    (λ le. c.is_digit.ensures.0 c.if-not-is_digit.false) k below from

pub returns-then-not-is_digit-clause-each : goal.returns-then-not-is_digit-clause-each
returns-then-not-is_digit-clause-each c = c.loop-place.invariant

pub returns-then-not-is_digit-clause-all : goal.returns-then-not-is_digit-clause-all
returns-then-not-is_digit-clause-all c = λ digit.
    let t = c.is_digit.ensures.1 digit in let f = c.if-not-is_digit.true in cc

pub returns-clause-each : goal.returns-clause-each
returns-clause-each c = λ place from below.
    c.loop-place.invariant place from (omega (arith, below))

pub returns-clause-all : goal.returns-clause-all
returns-clause-all c = λ digit.
    absurd (omega (arith, slice_get_within c.args.text.now _ digit.0 digit.1))
