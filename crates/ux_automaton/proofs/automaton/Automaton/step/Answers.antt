use Rattle.std.proofs.Common.{subst}
use Rattle.ux_automaton.specs.Fronts.{Keeps, Known}
use Rattle.ux_automaton.specs.Kept.{known_in, store_of}
use Rattle.ux_walk.specs.Settings.{masked_setting}
use Rattle.ux_automaton.proofs.CacheLemmas.{keeps_grown}
use Rattle.ux_automaton.proofs.automaton.Automaton.step.Goals as goal

pub returns-clause-keeps : goal.returns-clause-keeps
returns-clause-keeps c =
    subst (λ (k : Known). Keeps k (known_in c.self.inside.masked.now c.step.new.self)) c.self.view_is
    (keeps_grown (masked_setting c.self.inside.masked.now) (store_of c.self.inside.kept.fronts)
    (store_of c.step.new.self.fronts) (c.self.invariant.right c.if-not-self.false).sound
    c.in_ok-step.ensures.grows)
