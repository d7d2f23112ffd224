use Rattle.std.proofs.Common.{◌+◌, ◌*◌, min, ap, ◌∙◌, sym, arith}
use Rattle.std.proofs.lemmas.Grind.{common_steps}
use Rattle.ux_grf.proofs.NumbersLemmas.{digits_more}
use Rattle.ux_grf.proofs.number.decimal.Goals as goal

pub loop-byte-preserved : goal.loop-byte-preserved
loop-byte-preserved c =
    let more = digits_more c.args.word.now c.loop-byte.byte-index c.loop-byte.value
    c.loop-byte-test.true
    c.loop-byte.invariant.0 (sym c.is_digit_byte.ensures
    ∙ c.if-not-is_digit_byte.false) c.loop-byte.invariant.1 in (
      more.0,
      c.min-value.ensures ∙ (ap (λ n. min
          (c.loop-byte.value * 10 + n) 1000000000) c.from.ensures ∙ more.1),
    )

pub returns-then-is_empty-clause-none : goal.returns-then-is_empty-clause-none
returns-then-is_empty-clause-none c = grind (arith, common_steps)

pub loop-byte-init : goal.loop-byte-init
loop-byte-init c = grind (arith, common_steps)

pub returns-then-not-is_digit_byte-clause-none : goal.returns-then-not-is_digit_byte-clause-none
returns-then-not-is_digit_byte-clause-none c = grind (arith, common_steps)

pub overflow_mul-value : goal.overflow_mul-value
overflow_mul-value c = grind (arith, common_steps)

pub overflow_sub-byte : goal.overflow_sub-byte
overflow_sub-byte c = grind (arith, common_steps)

pub overflow_add-value : goal.overflow_add-value
overflow_add-value c = grind (arith, common_steps)

pub returns-clause-decimal : goal.returns-clause-decimal
returns-clause-decimal c = grind (arith, common_steps)

pub returns-clause-value : goal.returns-clause-value
returns-clause-value c = grind (arith, common_steps)
