use Rattle.ux_text_chart.proofs.beginning.may_reach.Goals as goal

pub returns : goal.returns
returns c = λ part found may. c.may_begin.ensures.1 (part, found, may)
