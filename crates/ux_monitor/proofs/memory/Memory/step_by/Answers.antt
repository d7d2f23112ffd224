use Rattle.std.proofs.Common.{◌≡◌, ◌∙◌, subst}
use Rattle.std.proofs.lemmas.Option.{same_Some}
use Rattle.ux_monitor.specs.declared.watching.Seen.{Seen}
use Rattle.ux_monitor.specs.Watches.{IsNext}
use Rattle.ux_monitor.specs.Steps.{Among}
use Rattle.ux_monitor.proofs.MemoryLemmas.{right_seen}
use Rattle.ux_monitor.proofs.memory.Memory.step_by.Goals as goal

pub returns-in_err-number-clause-right : goal.returns-in_err-number-clause-right
returns-in_err-number-clause-right c = λ kinds right.
    let memory = c.args.self.now in
    right_seen c.args.steps.now c.args.ends.now kinds memory.states.keys
    c.number_of.new.states.keys memory.first memory.next.entries c.in_ok-later.later
    c.in_ok-later.ensures.well c.number_of.ensures.kept c.number_of.ensures.only right

pub returns-clause-right : goal.returns-clause-right
returns-clause-right c = λ kinds right.
    let memory = c.args.self.now in
    right_seen c.args.steps.now c.args.ends.now kinds memory.states.keys
    c.number_of.new.states.keys memory.first memory.next.entries c.in_ok-later.later
    c.in_ok-later.ensures.well c.number_of.ensures.kept c.number_of.ensures.only right

pub returns-clause-stepped : goal.returns-clause-stepped
returns-clause-stepped c = λ before at.
    let is : c.in-Some.before.now ≡ before =
    same_Some c.in-Some.before.now before (c.in-Some.ensures.key ∙ at) in
    let same = c.in_ok-number.ensures.same in
    let later = c.in_ok-later.later in
    let next = subst (λ (s : Seen). IsNext c.args.steps.now c.args.ends.now
    (Among c.args.tests.now) s 0 later) is c.in_ok-later.ensures.next in
    (same.0, same.1, (later, next, same.2))
