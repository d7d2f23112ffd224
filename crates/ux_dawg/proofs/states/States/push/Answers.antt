use Rattle.ux_dawg.proofs.FlatLemmas.{rows_after, states_after}
use Rattle.ux_dawg.proofs.states.States.push.Goals as goal

pub invariant_of-self : goal.invariant_of-self
invariant_of-self c =
    rows_after c.args.code c.args.edges.now _ _ _ _ c.push_row.result c.self.invariant
    c.push_row.ensures.ok c.push_row.ensures.err

pub returns-clause-ok : goal.returns-clause-ok
returns-clause-ok c =
    states_after c.args.code c.args.edges.now _ _ _ _ c.push_row.result c.self.invariant
    c.args.self.now c.self.view_is c.push_row.ensures.ok
