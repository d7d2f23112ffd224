use Rattle.std.proofs.Common.{arith}
use Rattle.ux_cmd_morpho.proofs.ReadingLemmas.{short_all, short_next}
use Rattle.ux_cmd_morpho.proofs.files.are_words_short.Goals as goal

pub loop-place-preserved : goal.loop-place-preserved
loop-place-preserved c =
    short_next c.args.text.now c.args.letters.now c.loop-place.place c.loop-place.invariant
    (c.in_ok-is_short_at.ensures.short c.if-not-branch.false)

pub returns-clause-short : goal.returns-clause-short
returns-clause-short c = λ _ long.
    short_all c.args.text.now c.args.letters.now c.loop-place.place c.loop-place.invariant
    (let len = c.len-place-end.ensures.len in let past = c.loop-place-test.false in
    omega (arith, len, past)) long
