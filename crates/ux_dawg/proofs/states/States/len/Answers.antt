use Rattle.std.proofs.Common.{arith, refl}
use Rattle.std.proofs.lemmas.Grind.{common_steps}
use Rattle.ux_dawg.proofs.FlatLemmas.{length-seen}
use Rattle.ux_dawg.proofs.states.States.len.Goals as goal

pub returns : goal.returns
returns c =
    let seen = length-seen c.self.inside.rows.items c.self.inside.rows.items
    c.self.inside.edges.items c.args.self.now 0 refl c.self.view_is in
    grind (arith, common_steps, seen)
