use Rattle.ux_automaton.proofs.kept.Kept.is_barred.Goals as goal

pub bars-requires-clause-alone : goal.bars-requires-clause-alone
bars-requires-clause-alone c = c.requires.marked c.args.start
    (c.may_span_at.ensures c.if-may_span_at.false)
