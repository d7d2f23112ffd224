use Rattle.std.proofs.Common.{rules, ◌<◌, ◌^◌, [], subst}
use Rattle.ux_subsets.specs.Machines.{Grows}
use Rattle.ux_monitor.specs.Monitors.{tests_of, watched}
use Rattle.ux_monitor.specs.Remembering.{kinds_in}
use Rattle.ux_monitor.specs.Naming.{StandsBeside, Watching}
use Rattle.ux_monitor.proofs.KeepingLemmas.{SatisfiesOf, beside_grows, beside_state, begins, watching}
use Rattle.ux_monitor.proofs.keeping.WatchMachine.begin.Goals as goal

pub returns-clause-grows : goal.returns-clause-grows
returns-clause-grows c =
    let i = c.self.inside in
    let kinds = kinds_in i.kinds.now in
    let over = watched i.steps.now i.ends.now kinds in
    let table = tests_of kinds i.of.now in
    let states = c.begin.new.self.states.keys in
    let new = watching over table states in
    subst (λ (old : Watching). Grows (StandsBeside old) (StandsBeside new) (SatisfiesOf old)
    (SatisfiesOf new)) c.self.view_is
    (beside_grows over table i.memory.states.keys states c.begin.ensures.kept)

pub returns-clause-begun : goal.returns-clause-begun
returns-clause-begun c =
    let i = c.self.inside in
    let kinds = kinds_in i.kinds.now in
    let over = watched i.steps.now i.ends.now kinds in
    let table = tests_of kinds i.of.now in
    let seen = c.in_ok-state.ensures.begun kinds c.self.invariant in
    let small : c.in_ok-state.state < 2 ^ 64 = search rules in
    beside_state (watching over table c.begin.new.self.states.keys) c.in_ok-state.state [] small
    (seen.0, seen.1, begins over table seen.0 seen.2)
