use Rattle.std.proofs.Common.{subst}
use Rattle.ux_net.specs.Closings.{TellsClosings}
use Rattle.ux_net.proofs.net.Net.tells_closings.Goals as goal

pub returns : goal.returns
returns c = subst TellsClosings c.self.view_is c.self.invariant.0.told
