use Rattle.std.proofs.Common.{◌∙◌}
use Rattle.ux_dawg.proofs.FlatLemmas.{code_nowhere, code_there}
use Rattle.ux_dawg.proofs.states.States.code.Goals as goal

pub returns-in-Some : goal.returns-in-Some
returns-in-Some c =
    let there = c.in-Some.ensures.lookup in
    c.code_in.ensures
    ∙ code_there c.self.inside.rows.items c.deref.result.now c.self.inside.edges.items c.args.self.now
    c.args.number c.deref.ensures.value c.self.view_is c.in-Some.row.now there.3.0 there.1

pub returns-in-None : goal.returns-in-None
returns-in-None c =
    code_nowhere c.self.inside.rows.items c.deref.result.now c.self.inside.edges.items
    c.args.self.now c.args.number c.deref.ensures.value c.self.view_is c.in-None.ensures.lookup.3
