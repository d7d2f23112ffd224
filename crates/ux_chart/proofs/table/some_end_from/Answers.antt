use Rattle.std.proofs.Common.{get_or}
use Rattle.std.proofs.lemmas.List.Elements.{Contains-get_or}
use Rattle.ux_chart.proofs.FirstEnds.{none, none_first, one_more, none_all}
use Rattle.ux_chart.proofs.table.some_end_from.Goals as goal

pub loop-answer-init : goal.loop-answer-init
loop-answer-init c = none_first c.args.answers.now c.args.positions.now c.args.at

pub positions_in-requires : goal.positions_in-requires
positions_in-requires c = c.requires (get_or c.args.answers.now c.loop-answer.answer-index none)
    (Contains-get_or c.args.answers.now c.loop-answer.answer-index none c.loop-answer-test.true)

pub loop-answer-preserved : goal.loop-answer-preserved
loop-answer-preserved c = one_more c.args.answers.now c.args.positions.now c.args.at
    c.loop-answer.answer-index none c.positions_in.result.now c.loop-answer-test.true
    c.positions_in.ensures (c.begin_by.ensures c.if-begin_by.false) c.loop-answer.invariant

pub returns : goal.returns
returns c = λ no. none_all c.args.answers.now c.args.positions.now c.args.at
    c.loop-answer.answer-index c.loop-answer-test.false c.loop-answer.invariant
