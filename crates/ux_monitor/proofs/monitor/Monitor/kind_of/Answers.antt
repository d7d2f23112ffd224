use Rattle.std.proofs.Common.{ℕ, List, ◌↔◌, sym, subst}
use Rattle.std.specs.Prelude.{Contains}
use Rattle.ux_monitor.specs.Remembering.{kinds_in}
use Rattle.ux_monitor.proofs.MemoryLemmas.{right_more}
use Rattle.ux_monitor.proofs.monitor.Monitor.kind_of.Goals as goal

pub invariant_of-self : goal.invariant_of-self
invariant_of-self c =
    let i = c.self.inside in
    right_more i.steps i.ends.items (kinds_in i.kinds.keys) (kinds_in c.number_of.new.kinds.keys)
    c.number_of.ensures.more i.memory.states.keys i.memory.first i.memory.next.entries
    c.self.invariant

pub invariant_of-self-2 : goal.invariant_of-self-2
invariant_of-self-2 c =
    let i = c.self.inside in
    right_more i.steps i.ends.items (kinds_in i.kinds.keys) (kinds_in c.number_of.new.kinds.keys)
    c.number_of.ensures.more i.memory.states.keys i.memory.first i.memory.next.entries
    c.self.invariant

pub returns-clause-kind : goal.returns-clause-kind
returns-clause-kind c = record {
  inside = c.in_ok-number.ensures.inside;
  exact = λ t. subst (λ (xs : List ℕ). Contains xs t ↔ Contains c.args.tests.now t)
      (sym c.in_ok-number.ensures.tests) (c.in_ok-kind.ensures t);
}
