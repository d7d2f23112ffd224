use Rattle.std.proofs.Common.{arith, ◌<◌, ◌^◌, sym}
use Rattle.ux_sentence.proofs.LinkLemmas.{first_field, second_field}
use Rattle.ux_sentence.proofs.link.link_of.Goals as goal

pub returns-in_default-number_field : goal.returns-in_default-number_field
returns-in_default-number_field c = λ link is.
    let fit : c.args.states < 2 ^ 64 = omega arith in
    let first = first_field c.args.states c.in-Some.from c.args.line.now c.in-Some.behind.now fit
    c.in-Some.ensures.fits c.in-Some.ensures.value link is in
    c.in_default-number_field.ensures.value link.to is.text (omega (arith, is.to_state, fit))
    (sym first.1)

pub returns-then-from-states : goal.returns-then-from-states
returns-then-from-states c = λ link is.
    let fit : c.args.states < 2 ^ 64 = omega arith in
    let both = second_field c.args.states c.in-Some.from c.in-Some-number_field.to
    c.args.line.now c.in-Some.behind.now c.in-Some-number_field.text.now fit
    c.in-Some.ensures.fits c.in-Some-number_field.ensures.fits c.in-Some.ensures.value
    c.in-Some-number_field.ensures.value link is in
    omega (arith, both.0, both.1, is.from_state, is.to_state, c.then-from-states.either)

pub returns-in_default-2 : goal.returns-in_default-2
returns-in_default-2 c = λ link is.
    let fit : c.args.states < 2 ^ 64 = omega arith in
    let both = second_field c.args.states c.in-Some.from c.in-Some-number_field.to
    c.args.line.now c.in-Some.behind.now c.in-Some-number_field.text.now fit
    c.in-Some.ensures.fits c.in-Some-number_field.ensures.fits c.in-Some.ensures.value
    c.in-Some-number_field.ensures.value link is in
    let none = rw c.in_default-2.is at c.in_ok-reading.ensures in
    none link.reading both.2
