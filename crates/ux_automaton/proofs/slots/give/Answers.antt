use Rattle.std.proofs.Common.{inl, inr}
use Rattle.ux_automaton.proofs.SlotsLemmas.{given}
use Rattle.ux_automaton.proofs.slots.give.Goals as goal

pub returns : goal.returns
returns g c n v = λ h.
    elim (given c.reach.new.slots.items c.args.number c.args.value n v h) [
      | inl here ↦ inl here
      | inr there ↦ inr (c.in_ok-reach.ensures.same n v there)
    ]
