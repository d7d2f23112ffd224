use Rattle.std.proofs.Common.{refl, arith}
use Rattle.ux_outputs.proofs.TakeLemmas.{state_of-take_on}
use Rattle.ux_outputs.proofs.rendering.Rendering.take_on.Goals as goal

pub returns-clause-state : goal.returns-clause-state
returns-clause-state c mode tokens kept =
    state_of-take_on mode tokens c.args.self.now c.args.self.now.position c.args.to c.args.span
    c.requires.begun refl kept.waiting (omega arith)
