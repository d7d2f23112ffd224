use Rattle.std.proofs.Common.{ℕ, ◌+◌, refl, ◌∙◌, ap, arith}
use Rattle.std.proofs.lemmas.Grind.{common_steps}
use Rattle.std.specs.Str.Iter.{char_indices_offset, char_indices_rest}
use Rattle.std.proofs.lemmas.Str.{length-encode}
use Rattle.ux_tokens.proofs.FirstLemmas.{run_start, run_more, run_ends, run_is_all, run_ends_all}
use Rattle.ux_tokens.proofs.first.decoded_run_len.Goals as goal

pub loop-place-init : goal.loop-place-init
loop-place-init c =
    let same = c.into_iter-place-iterator.ensures.into_iter_gives in
    let whole = ap char_indices_rest same ∙ c.char_indices-place-items.ensures.rest in
    let start = ap char_indices_offset same ∙ c.char_indices-place-items.ensures.offset in
    rw whole (rw start (run_start c.args.alphabet.now c.args.text.now c.utf8.text))

pub loop-place-preserved : goal.loop-place-preserved
loop-place-preserved c =
    let steps = c.in-Some.ensures.steps in
    let start = char_indices_offset c.loop-place.place-iterator in
    let next = steps.2 ∙ ap (λ (n : ℕ). start + n) (length-encode c.in-Some.c) in
    rw next
    (run_more c.args.alphabet.now c.args.text.now c.utf8.text start _ _ c.in-Some.c
    c.loop-place.invariant steps.1 (c.if-not-is_letter.ensures.0 refl))

pub returns-then-not-is_letter-clause-ends : goal.returns-then-not-is_letter-clause-ends
returns-then-not-is_letter-clause-ends c =
    let steps = c.in-Some.ensures.steps in
    rw steps.0
    (run_ends c.args.alphabet.now c.args.text.now c.utf8.text
    (char_indices_offset c.loop-place.place-iterator) _ _ c.in-Some.c
    c.loop-place.invariant steps.1
    (λ letter. let never = c.if-not-is_letter.ensures.1 letter in cc))

pub returns-clause-letters : goal.returns-clause-letters
returns-clause-letters c =
    let none = c.in-None.ensures.steps.0 in
    let all = run_is_all c.args.alphabet.now c.args.text.now _ _ c.loop-place.invariant none in
    rw all c.loop-place.invariant.letters

pub returns-clause-ends : goal.returns-clause-ends
returns-clause-ends c =
    let none = c.in-None.ensures.steps.0 in
    let all = run_is_all c.args.alphabet.now c.args.text.now _ _ c.loop-place.invariant none in
    rw all (run_ends_all c.args.alphabet.now c.args.text.now _ _ c.loop-place.invariant none)

pub loop-place-init-derived : goal.loop-place-init-derived
loop-place-init-derived c = grind (arith, common_steps)

pub next-requires : goal.next-requires
next-requires c = grind (arith, common_steps)

pub returns-then-not-is_letter-clause-cut : goal.returns-then-not-is_letter-clause-cut
returns-then-not-is_letter-clause-cut c = grind (arith, common_steps)

pub returns-then-not-is_letter-clause-letters : goal.returns-then-not-is_letter-clause-letters
returns-then-not-is_letter-clause-letters c = grind (arith, common_steps)

pub loop-place-preserved-derived : goal.loop-place-preserved-derived
loop-place-preserved-derived c = grind (arith, common_steps)

pub returns-clause-cut : goal.returns-clause-cut
returns-clause-cut c = grind (arith, common_steps)
