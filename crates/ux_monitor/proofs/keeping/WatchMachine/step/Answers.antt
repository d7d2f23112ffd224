use Rattle.std.proofs.Common.{rules, ◌<◌, ◌^◌, [], ◌∷◌, ◌++◌, sym, subst}
use Rattle.ux_subsets.specs.Machines.{Grows}
use Rattle.ux_monitor.specs.Monitors.{kind_at, tests_of, watched}
use Rattle.ux_monitor.specs.Remembering.{kinds_in}
use Rattle.ux_monitor.specs.Naming.{StandsBeside, Watching}
use Rattle.ux_monitor.proofs.KeepingLemmas.{SatisfiesOf, beside_grows, beside_state, goes_on, watching}
use Rattle.ux_monitor.proofs.keeping.WatchMachine.step.Goals as goal

pub returns-in_default-clause-grows : goal.returns-in_default-clause-grows
returns-in_default-clause-grows c =
    let i = c.self.inside in
    let kinds = kinds_in i.kinds.now in
    let over = watched i.steps.now i.ends.now kinds in
    let table = tests_of kinds i.of.now in
    let states = c.step_by.new.self.states.keys in
    let new = watching over table states in
    subst (λ (old : Watching). Grows (StandsBeside old) (StandsBeside new) (SatisfiesOf old)
    (SatisfiesOf new)) c.self.view_is
    (beside_grows over table i.memory.states.keys states c.step_by.ensures.kept)

pub returns-clause-grows : goal.returns-clause-grows
returns-clause-grows c =
    let i = c.self.inside in
    let kinds = kinds_in i.kinds.now in
    let over = watched i.steps.now i.ends.now kinds in
    let table = tests_of kinds i.of.now in
    let states = c.step.new.self.states.keys in
    let new = watching over table states in
    subst (λ (old : Watching). Grows (StandsBeside old) (StandsBeside new) (SatisfiesOf old)
    (SatisfiesOf new)) c.self.view_is
    (beside_grows over table i.memory.states.keys states c.step.ensures.kept)

pub returns-in_default-clause-stepped : goal.returns-in_default-clause-stepped
returns-in_default-clause-stepped c = λ before stands.
    let i = c.self.inside in
    let kinds = kinds_in i.kinds.now in
    let over = watched i.steps.now i.ends.now kinds in
    let table = tests_of kinds i.of.now in
    let here : c.args.state < 2 ^ 64 = search rules in
    let small : c.in_ok-next.next < 2 ^ 64 = search rules in
    let s = (subst (λ (w : Watching). StandsBeside w c.args.state before) (sym c.self.view_is)
    stands).state here in
    let later = c.in_ok-next.ensures.stepped s.0 s.1 in
    beside_state (watching over table c.step_by.new.self.states.keys) c.in_ok-next.next
    (before ++ c.args.reading ∷ []) small (
      later.0,
      later.1,
      goes_on over table c.args.reading [] c.in_default.ensures.none s.0 later.0 later.2 before s.2,
    )

pub returns-clause-stepped : goal.returns-clause-stepped
returns-clause-stepped c = λ before stands.
    let i = c.self.inside in
    let kinds = kinds_in i.kinds.now in
    let over = watched i.steps.now i.ends.now kinds in
    let table = tests_of kinds i.of.now in
    let here : c.args.state < 2 ^ 64 = search rules in
    let small : c.in_ok-next-2.next < 2 ^ 64 = search rules in
    let s = (subst (λ (w : Watching). StandsBeside w c.args.state before) (sym c.self.view_is)
    stands).state here in
    let later = c.in_ok-next-2.ensures.stepped s.0 s.1 in
    beside_state (watching over table c.step.new.self.states.keys) c.in_ok-next-2.next
    (before ++ c.args.reading ∷ []) small (
      later.0,
      later.1,
      goes_on over table c.args.reading (kind_at kinds c.in-Some.kind) c.in-Some.ensures.some s.0
          later.0 later.2 before s.2,
    )
