use Rattle.std.proofs.Common.{drop, refl, sym, ◌∙◌, ap, subst, arith}
use Rattle.std.proofs.lemmas.Grind.{common_steps}
use Rattle.std.proofs.lemmas.List.{drop-drop}
use Rattle.ux_tokens.specs.First.{BeginsWithNoLetter}
use Rattle.ux_tokens.proofs.FirstLemmas.{run_start}
use Rattle.ux_tokens.proofs.AsciiLemmas.{no_letter_behind, run_more_ascii, run_ends_ascii, run_joined}
use Rattle.ux_tokens.proofs.first.run_len.Goals as goal

pub loop-place-init : goal.loop-place-init
loop-place-init c = run_start c.args.alphabet.now c.args.text.now c.utf8.text

pub loop-place-preserved : goal.loop-place-preserved
loop-place-preserved c =
    let bytes = c.as_bytes-bytes.ensures.value in
    run_more_ascii c.args.alphabet.now c.args.text.now c.utf8.text c.loop-place.place
    c.loop-place.invariant (rw bytes at c.loop-place-test.true) (rw bytes at c.if-byte-ge128.false)
    (rw bytes at (c.if-not-is_letter.ensures.0 refl))

pub returns-then-byte-ge128-clause-letters : goal.returns-then-byte-ge128-clause-letters
returns-then-byte-ge128-clause-letters c =
    run_joined c.args.alphabet.now c.args.text.now c.utf8.text c.loop-place.place
    c.loop-place.invariant c.decoded_run_len.result
    (rw c.range_from.ensures.value at c.decoded_run_len.ensures.letters)

pub returns-then-byte-ge128-clause-ends : goal.returns-then-byte-ge128-clause-ends
returns-then-byte-ge128-clause-ends c =
    let len = c.decoded_run_len.result in
    subst (BeginsWithNoLetter c.args.alphabet.now)
    (ap (drop len) c.range_from.ensures.value
    ∙ drop-drop len c.loop-place.place c.args.text.now)
    c.decoded_run_len.ensures.ends

pub returns-then-not-is_letter-clause-ends : goal.returns-then-not-is_letter-clause-ends
returns-then-not-is_letter-clause-ends c =
    let bytes = c.as_bytes-bytes.ensures.value in
    run_ends_ascii c.args.alphabet.now c.args.text.now c.utf8.text c.loop-place.place
    c.loop-place.invariant (rw bytes at c.loop-place-test.true) (rw bytes at c.if-byte-ge128.false)
    (λ letter. let never = c.if-not-is_letter.ensures.1 (rw (sym bytes) at letter) in cc)

pub returns-clause-ends : goal.returns-clause-ends
returns-clause-ends c = no_letter_behind c.args.alphabet.now c.args.text.now

pub returns-then-byte-ge128-clause-cut : goal.returns-then-byte-ge128-clause-cut
returns-then-byte-ge128-clause-cut c = grind (arith, common_steps)

pub bounds-bytes-place : goal.bounds-bytes-place
bounds-bytes-place c = grind (arith, common_steps)

pub range_from-requires : goal.range_from-requires
range_from-requires c = grind (arith, common_steps)

pub overflow_add-result : goal.overflow_add-result
overflow_add-result c = grind (arith, common_steps)

pub char-byte : goal.char-byte
char-byte c = grind (arith, common_steps)

pub returns-then-not-is_letter-clause-cut : goal.returns-then-not-is_letter-clause-cut
returns-then-not-is_letter-clause-cut c = grind (arith, common_steps)

pub returns-then-not-is_letter-clause-letters : goal.returns-then-not-is_letter-clause-letters
returns-then-not-is_letter-clause-letters c = grind (arith, common_steps)

pub returns-clause-cut : goal.returns-clause-cut
returns-clause-cut c = grind (arith, common_steps)
