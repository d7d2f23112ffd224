use Rattle.std.proofs.Common.{◌≤◌, ◌<◌, length, sym, subst, List}
use Rattle.ux_net.specs.declared.state.State.{State}
use Rattle.ux_net.proofs.NetLemmas.{states_counted}
use Rattle.ux_net.proofs.net.Net.states_in.Goals as goal

pub returns-clause-some : goal.returns-clause-some
returns-clause-some c =
    subst (λ (states : List State). 1 ≤ length states) (sym c.as_slice.ensures)
    (states_counted c.self.inside.graphs.items c.self.invariant.0 c.args.graph c.index.result.now
    c.requires.from (rw c.self.view_is c.requires.to) c.index.ensures).0

pub returns-clause-few : goal.returns-clause-few
returns-clause-few c =
    subst (λ (states : List State). length states < 4294967296) (sym c.as_slice.ensures)
    (states_counted c.self.inside.graphs.items c.self.invariant.0 c.args.graph c.index.result.now
    c.requires.from (rw c.self.view_is c.requires.to) c.index.ensures).1
