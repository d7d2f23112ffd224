use Rattle.std.proofs.Common.{arith}
use Rattle.std.proofs.lemmas.List.{length-take-le}
use Rattle.ux_tokens.proofs.BlocksLemmas.{plain_only}
use Rattle.ux_tokens.proofs.block.plain_len.Goals as goal

pub returns-then-are_plain-clause-plain : goal.returns-then-are_plain-clause-plain
returns-then-are_plain-clause-plain c = λ some.
    let text = c.args.text.now in
    let long = c.if-text-gt-BLOCK.true in
    let len = length-take-le 257 text (omega (arith, long)) in
    plain_only 257 text
    (λ k below. c.are_plain.ensures c.if-are_plain.true k (omega (arith, below, len)))
