use Rattle.ux_monitor.proofs.MemoryLemmas.{right_seen, right_first}
use Rattle.ux_monitor.proofs.memory.Memory.begin.Goals as goal

pub returns-in-Some-clause-begun : goal.returns-in-Some-clause-begun
returns-in-Some-clause-begun c = λ kinds right. right.begins c.in-Some.number c.in-Some.is

pub returns-in_err-number-clause-right : goal.returns-in_err-number-clause-right
returns-in_err-number-clause-right c = λ kinds right.
    let memory = c.args.self.now in
    right_seen c.args.steps.now c.args.ends.now kinds memory.states.keys
    c.number_of.new.states.keys memory.first memory.next.entries c.in_ok-seen.seen
    c.in_ok-seen.ensures.well c.number_of.ensures.kept c.number_of.ensures.only right

pub returns-clause-right : goal.returns-clause-right
returns-clause-right c = λ kinds right.
    let steps = c.args.steps.now in
    let ends = c.args.ends.now in
    let memory = c.args.self.now in
    let states = c.number_of.new.states.keys in
    let seen = c.in_ok-seen.seen in
    let same = c.in_ok-number.ensures.same in
    right_first steps ends kinds states memory.first memory.next.entries c.in_ok-number.number
    same.0 same.1 (seen, c.in_ok-seen.ensures.first, same.2)
    (right_seen steps ends kinds memory.states.keys states memory.first memory.next.entries seen
    c.in_ok-seen.ensures.well c.number_of.ensures.kept c.number_of.ensures.only right)
