use Rattle.std.proofs.Common.{arith, length, ap, rules}
use Rattle.std.proofs.lemmas.Grind.{common_steps}
use Rattle.ux_base.proofs.LinesLemmas.{lines_of-count}
use Rattle.ux_reading_table.proofs.sentences.NumberedSentences.opened.Goals as goal

pub invariant_of-result : goal.invariant_of-result
invariant_of-result c =
    let first = ap length c.in-Some.ensures.1 in
    let all = ap length c.lines-left.ensures in (
      omega (arith, first, all, lines_of-count c.args.text.now),
      omega arith,
      first_of (omega arith, search rules, grind (arith, common_steps)),
    )
