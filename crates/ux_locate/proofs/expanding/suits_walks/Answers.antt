use Rattle.ux_locate.proofs.expanding.suits_walks.Goals as goal

pub returns : goal.returns
returns c suits = c.is_plain.ensures.0 c.if-not-is_plain.false
