use Rattle.ux_apply.proofs.tagged.if_simple.Goals as goal

pub returns-clause-others : goal.returns-clause-others
returns-clause-others c = λ no. absurd (no (c.is_simple.ensures.0 c.if-not-is_simple.false))
