use Rattle.ux_outputs.proofs.TakeLemmas.{IsKept-take_first, state_of-take_first}
use Rattle.ux_outputs.proofs.rendering.Rendering.take_first.Goals as goal

pub returns-clause-kept : goal.returns-clause-kept
returns-clause-kept c =
    rw (c.span_of-self.ensures, c.after_spaces-begin.ensures)
    (IsKept-take_first c.args.text.now c.args.self.now c.args.from c.args.to c.requires.kept
    c.requires.in_order c.requires.within)

pub returns-clause-state : goal.returns-clause-state
returns-clause-state c mode =
    rw (c.span_of-self.ensures, c.after_spaces-begin.ensures)
    (state_of-take_first mode c.args.text.now c.args.self.now c.args.from c.args.to
    c.requires.fresh (c.requires.kept.fresh c.requires.fresh))
