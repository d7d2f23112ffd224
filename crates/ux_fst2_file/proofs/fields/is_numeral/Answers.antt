use Rattle.std.proofs.Common.{arith, false, refl, ap, sym, ◌<◌, length, get_or, subst, List, ℕ}
use Rattle.std.specs.Char.{digit_value, IsNotAsciiDigit}
use Rattle.std.proofs.lemmas.Bool.{both_ways}
use Rattle.std.proofs.lemmas.Str.Parse.{digit_from_value}
use Rattle.ux_fst2_file.proofs.FieldLemmas.{digits_more, digit_of_all}
use Rattle.ux_fst2_file.proofs.fields.is_numeral.Goals as goal

no_digit : (b : ℕ) → IsNotAsciiDigit b → digit_value b < 10 → ⊥
no_digit b other digit =
    let in_range = digit_from_value b digit in
    grind (arith, in_range, other)

pub returns-then-not-is_ascii_digit : goal.returns-then-not-is_ascii_digit
returns-then-not-is_ascii_digit c =
    let bytes = c.as_bytes-byte-items.result.now in
    let same = c.as_bytes-byte-items.ensures.value in
    let i = c.loop-byte.byte-index in (
      λ h. absurd (both_ways false refl h),
      λ h. absurd (no_digit (get_or bytes i 0) c.if-not-is_ascii_digit.ensures.cases
          (subst (λ (t : List ℕ). digit_value (get_or t i 0) < 10) (sym same)
          (digit_of_all c.args.text.now i (omega (arith, ap length same, c.loop-byte-test.true))
          h.1))),
    )

pub loop-byte-preserved : goal.loop-byte-preserved
loop-byte-preserved c =
    let bytes = c.as_bytes-byte-items.result.now in
    let same = c.as_bytes-byte-items.ensures.value in
    let i = c.loop-byte.byte-index in
    digits_more c.args.text.now i
    (omega (arith, ap length same, c.loop-byte-test.true))
    c.loop-byte.invariant
    (subst (λ (t : List ℕ). digit_value (get_or t i 0) < 10) same
    c.if-not-is_ascii_digit.ensures.bound)
