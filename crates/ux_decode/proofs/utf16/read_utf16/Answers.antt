use Rattle.std.proofs.Common.{arith, sym, subst, ◌<◌, ◌∙◌, List, ℕ, length, drop}
use Rattle.std.proofs.lemmas.Grind.{common_steps}
use Rattle.std.proofs.lemmas.Bool.Decides.{nat_tests}
use Rattle.ux_decode.proofs.SpellsLemmas.{Spells-more, RefusesUtf16-lone, RefusesUtf16-half}
use Rattle.ux_decode.specs.Decoding.{Spells}
use Rattle.ux_decode.specs.declared.encoding.Encoding.TheVariants.{Utf16}
use Rattle.ux_decode.proofs.utf16.read_utf16.Goals as goal

pub returns-in_default-split_char-clause-err : goal.returns-in_default-split_char-clause-err
returns-in_default-split_char-clause-err c =
    RefusesUtf16-lone c.args.order c.args.bytes.now _ c.loop-unit.rest.now _ _ c.requires
    c.loop-unit.invariant c.in-Some.ensures c.in_default-split_char.ensures

pub loop-unit-preserved : goal.loop-unit-preserved
loop-unit-preserved c =
    let char = c.in-Some-split_char.ensures in
    let body = drop 2 c.args.bytes.now in
    let after = c.in-Some-split_char.after.now in
    let read = Spells-more c.args.order body _ c.loop-unit.rest.now after c.in-Some-split_char.c
    c.loop-unit.invariant char.0 (c.in-Some.ensures.bytes_are ∙ char.1) in
    subst (λ (text : List ℕ). Spells (Utf16 c.args.order) body text after)
    (sym c.in_ok-push.ensures.bytes) read

pub returns-then-not-is_empty-clause-err : goal.returns-then-not-is_empty-clause-err
returns-then-not-is_empty-clause-err c =
    let empty = sym c.is_empty.ensures ∙ c.if-not-is_empty.true in
    let some : 0 < length c.loop-unit.rest.now = grind (arith, nat_tests) in
    RefusesUtf16-half c.args.order c.args.bytes.now _ c.loop-unit.rest.now c.requires
    c.loop-unit.invariant c.in_default.ensures some

pub loop-unit-init : goal.loop-unit-init
loop-unit-init c = grind (arith, common_steps)

pub overflow_sub-place : goal.overflow_sub-place
overflow_sub-place c = grind (arith, common_steps)

pub loop-unit-smaller : goal.loop-unit-smaller
loop-unit-smaller c = grind (arith, common_steps)

pub returns-clause-ok : goal.returns-clause-ok
returns-clause-ok c = grind (arith, common_steps)
