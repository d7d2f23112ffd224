use Rattle.std.proofs.Common.{arith}
use Rattle.ux_grf.proofs.NumbersLemmas.{number_below}
use Rattle.ux_grf.proofs.number.number.Goals as goal

pub returns-clause-value : goal.returns-clause-value
returns-clause-value c =
    let b = number_below c.args.word.now c.in_ok-decimal.ensures.decimal c.if-word-gt9.false in
    omega (arith, c.in_ok-decimal.ensures.value)
