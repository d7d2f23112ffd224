use Rattle.std.proofs.Common.{arith, ◌<◌, ◌^◌, sym}
use Rattle.ux_sentence.proofs.LinkLemmas.{first_field, second_field}
use Rattle.ux_reading_table.proofs.fields.fields_of.Goals as goal

pub returns-in_err-to : goal.returns-in_err-to
returns-in_err-to c =
    rw c.from_residual-in_err-to.ensures
    (λ link is.
    (let fit : c.args.states < 2 ^ 64 = omega arith in
    let first = first_field c.args.states c.in_ok-from.from c.args.line.now c.in_ok-from.behind.now
    fit c.in_ok-from.ensures.fits c.in_ok-from.ensures.value link is in
    c.in_err-to.ensures.value link.to is.text (omega (arith, is.to_state, fit)) (sym first.1)))

pub returns-then-from-states : goal.returns-then-from-states
returns-then-from-states c = λ link is.
    let fit : c.args.states < 2 ^ 64 = omega arith in
    let both = second_field c.args.states c.in_ok-from.from c.in_ok-to.to c.args.line.now
    c.in_ok-from.behind.now c.in_ok-to.text.now fit c.in_ok-from.ensures.fits
    c.in_ok-to.ensures.fits c.in_ok-from.ensures.value c.in_ok-to.ensures.value link is in
    omega (arith, both.0, both.1, is.from_state, is.to_state, c.then-from-states.either)
