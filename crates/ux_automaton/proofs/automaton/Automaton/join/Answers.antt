use Rattle.std.proofs.Common.{◌↔◌, ◌⊎◌, subst}
use Rattle.ux_walk.specs.Leads.{Stack}
use Rattle.ux_automaton.specs.Fronts.{Holds, HoldsIn, Keeps, Known}
use Rattle.ux_automaton.specs.Kept.{known_in, store_of}
use Rattle.ux_walk.specs.Settings.{masked_setting}
use Rattle.ux_automaton.proofs.CacheLemmas.{keeps_grown}
use Rattle.ux_automaton.proofs.FrontIndexLemmas.{indexes_kept}
use Rattle.ux_automaton.proofs.automaton.Automaton.join.Goals as goal

pub invariant_of-self-2 : goal.invariant_of-self-2
invariant_of-self-2 c = record {
  table = c.self.invariant.table;
  marked = c.self.invariant.marked;
  right = λ yes. c.in_ok-front.ensures.right (masked_setting c.self.inside.masked.now)
      (c.self.invariant.right c.if-not-self.false);
  indexed = λ yes. c.self.invariant.indexed c.if-not-self.false;
  fronts_indexed = λ yes. indexes_kept c.self.inside.masked.now (store_of c.self.inside.kept.fronts)
      (store_of c.join.new.self.fronts) c.self.inside.front_indexes
      (c.self.invariant.right c.if-not-self.false).sound c.in_ok-front.ensures.grows
      (c.self.invariant.fronts_indexed c.if-not-self.false);
}

pub returns-clause-keeps : goal.returns-clause-keeps
returns-clause-keeps c =
    subst (λ (k : Known). Keeps k (known_in c.self.inside.masked.now c.join.new.self)) c.self.view_is
    (keeps_grown (masked_setting c.self.inside.masked.now) (store_of c.self.inside.kept.fronts)
    (store_of c.join.new.self.fronts) (c.self.invariant.right c.if-not-self.false).sound
    c.in_ok-front.ensures.grows)

pub returns-clause-both : goal.returns-clause-both
returns-clause-both c = subst (λ (k : Known). (stack : Stack) →
    HoldsIn (store_of c.join.new.self.fronts) c.in_ok-front.front stack
    ↔ (Holds k c.args.one stack ⊎ Holds k c.args.other stack)) c.self.view_is
    c.in_ok-front.ensures.both
