use Rattle.std.proofs.Common.{arith}
use Rattle.ux_morpho.proofs.FewLemmas.{few_letters}
use Rattle.ux_morpho.proofs.analysing.has_few_letters.Goals as goal

pub returns-then-token-le-MOST_LETTERS-clause-few : goal.returns-then-token-le-MOST_LETTERS-clause-few
returns-then-token-le-MOST_LETTERS-clause-few c = λ _ many.
    let low = c.if-token-le-MOST_LETTERS.true in
    few_letters c.args.alphabet.now c.args.token.now (omega (arith, low)) many
