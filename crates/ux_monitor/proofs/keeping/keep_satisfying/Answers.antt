use Rattle.std.proofs.Common.{ℕ, List, ◌∙◌, subst}
use Rattle.std.specs.Prelude.{IfSome, IfNone}
use Rattle.ux_subsets.specs.declared.automaton.Automaton.{Automaton}
use Rattle.ux_subsets.specs.Paths.{Spells, IsLeft}
use Rattle.ux_monitor.specs.Rules.{SatisfiesBy}
use Rattle.ux_monitor.specs.Monitors.{Monitored, tests_of}
use Rattle.ux_monitor.specs.Remembering.{kinds_in}
use Rattle.ux_monitor.proofs.KeepingLemmas.{watched_same}
use Rattle.ux_monitor.proofs.keeping.keep_satisfying.Goals as goal

pub returns-clause-left : goal.returns-clause-left
returns-clause-left c =
    let same = watched_same c.take_memory-memory.new.self c.steps.result.now c.ends.result.now
    (kinds_in c.kinds.result.now) c.steps.ensures c.ends.ensures c.kinds.ensures
    ∙ c.take_memory-memory.ensures.same in
    subst (λ (m : Monitored). IfSome c.in_ok-answer.answer (λ (left : Automaton). IsLeft
    (SatisfiesBy m.rule (tests_of m.kinds c.args.kinds.now)) c.args.last c.args.links.now left.last
    left.links.items)) same c.in_ok-answer.ensures.left

pub returns-clause-nothing : goal.returns-clause-nothing
returns-clause-nothing c =
    let same = watched_same c.take_memory-memory.new.self c.steps.result.now c.ends.result.now
    (kinds_in c.kinds.result.now) c.steps.ensures c.ends.ensures c.kinds.ensures
    ∙ c.take_memory-memory.ensures.same in
    subst (λ (m : Monitored). IfNone c.in_ok-answer.answer ((readings : List ℕ) →
    Spells c.args.links.now 0 c.args.last readings →
    SatisfiesBy m.rule (tests_of m.kinds c.args.kinds.now) readings → ⊥)) same
    c.in_ok-answer.ensures.nothing
