use Rattle.std.proofs.Common.{rules, ◌<◌, ◌^◌, ◌↔◌, sym, subst}
use Rattle.std.specs.Prelude.{IsTrue}
use Rattle.ux_monitor.specs.Monitors.{tests_of, watched}
use Rattle.ux_monitor.specs.Remembering.{kinds_in}
use Rattle.ux_monitor.specs.Naming.{StandsBeside, Watching}
use Rattle.ux_monitor.proofs.KeepingLemmas.{SatisfiesOf, at_in, tells_satisfied}
use Rattle.ux_monitor.proofs.WordsLemmas.{both_ways}
use Rattle.ux_monitor.proofs.keeping.WatchMachine.accepts.Goals as goal

pub returns : goal.returns
returns c = λ before stands.
    let i = c.self.inside in
    let kinds = kinds_in i.kinds.now in
    let over = watched i.steps.now i.ends.now kinds in
    let table = tests_of kinds i.of.now in
    let here : c.args.state < 2 ^ 64 = search rules in
    let s = (subst (λ (w : Watching). StandsBeside w c.args.state before) (sym c.self.view_is)
    stands).state here in
    let tells = c.self.invariant.tells s.0 (at_in i.memory.states.keys c.args.state s.0 s.1) in
    subst (λ (w : Watching). IsTrue c.accepts.result ↔ SatisfiesOf w before) c.self.view_is
    (both_ways (c.accepts.ensures s.0 s.1) (tells_satisfied over table s.0 tells before s.2))
