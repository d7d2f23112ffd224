use Rattle.std.proofs.Common.{◌≡◌, ◌↔◌, subst}
use Rattle.ux_walk.specs.Leads.{Stack, main_stack}
use Rattle.ux_automaton.specs.Fronts.{HoldsIn, IsFrontIn, Known}
use Rattle.ux_walk.specs.Settings.{masked_setting}
use Rattle.ux_automaton.proofs.automaton.Automaton.begin.Goals as goal

pub returns-then-size-le-MOST_LINKS-clause-there :
    goal.returns-then-size-le-MOST_LINKS-clause-there
returns-then-size-le-MOST_LINKS-clause-there c =
    subst (λ (k : Known). IsFrontIn k.store c.first.result) c.self.view_is
    (c.first.ensures (masked_setting c.self.inside.masked.now)
    (c.self.invariant.right c.if-not-self.false)).there

pub returns-then-size-le-MOST_LINKS-clause-main : goal.returns-then-size-le-MOST_LINKS-clause-main
returns-then-size-le-MOST_LINKS-clause-main c = subst (λ (k : Known). (stack : Stack) →
    HoldsIn k.store c.first.result stack ↔ (stack ≡ main_stack)) c.self.view_is
    (c.first.ensures (masked_setting c.self.inside.masked.now)
    (c.self.invariant.right c.if-not-self.false)).main

pub returns-clause-there : goal.returns-clause-there
returns-clause-there c = (c.first-first.ensures (masked_setting c.self.inside.masked.now)
    (c.in_ok-kept.ensures (masked_setting c.self.inside.masked.now))).there

pub returns-clause-main : goal.returns-clause-main
returns-clause-main c = (c.first-first.ensures (masked_setting c.self.inside.masked.now)
    (c.in_ok-kept.ensures (masked_setting c.self.inside.masked.now))).main

pub invariant_of-self : goal.invariant_of-self
invariant_of-self c = record {
  table = c.self.invariant.table;
  marked = c.self.invariant.marked;
  right = λ yes. c.in_ok-kept.ensures (masked_setting c.self.inside.masked.now);
  indexed = c.self.invariant.indexed;
  fronts_indexed = λ yes. c.let_go.ensures c.self.inside.masked.now _ _
      (c.self.invariant.fronts_indexed yes);
}
