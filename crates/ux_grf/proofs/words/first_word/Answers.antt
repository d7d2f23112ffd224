use Rattle.std.proofs.Common.{arith}
use Rattle.std.proofs.lemmas.Grind.{common_steps}
use Rattle.std.proofs.lemmas.Str.{IsCharBoundary-before_ascii}
use Rattle.ux_grf.proofs.WordsLemmas.{words_of-gap, words_of-last, gap_is_ascii}
use Rattle.ux_grf.proofs.words.first_word.Goals as goal

pub range-requires-clause-end_boundary : goal.range-requires-clause-end_boundary
range-requires-clause-end_boundary c =
    IsCharBoundary-before_ascii c.args.text.now c.in-Some.end c.in-Some.ensures.inside
    (gap_is_ascii c.args.gap _ c.in-Some.ensures.here)

pub after-requires-clause-ascii : goal.after-requires-clause-ascii
after-requires-clause-ascii c = gap_is_ascii c.args.gap _ c.in-Some.ensures.here

pub returns-in-Some-clause-words : goal.returns-in-Some-clause-words
returns-in-Some-clause-words c =
    words_of-gap c.args.gap c.args.text.now c.range.result.now c.after.result.now c.in-Some.end
    c.in-Some.ensures c.range.ensures.value c.after.ensures

pub returns-in-None-clause-words : goal.returns-in-None-clause-words
returns-in-None-clause-words c =
    words_of-last c.args.gap c.args.text.now c.range_from.result.now c.in-None.ensures
    c.range_from.ensures.value

pub returns-in-Some-clause-shorter : goal.returns-in-Some-clause-shorter
returns-in-Some-clause-shorter c = grind (arith, common_steps)
