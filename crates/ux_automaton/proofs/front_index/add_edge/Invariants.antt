use Rattle.std.proofs.Common.{◌≡◌, ℕ, take}
use Rattle.std.specs.Prelude.{Contains}
use Rattle.ux_automaton.specs.declared.front_index.Fitting.{Fitting}
use Rattle.ux_automaton.proofs.AddingLemmas.{AddsSome}
use Rattle.ux_automaton.proofs.front_index.add_edge.Given as goal

-- the stand was added with the tokens so far
abbrev pub invariant-loop-number : goal.invariant-loop-number
invariant-loop-number l = AddsSome
    (λ (number : ℕ) (fitting : Fitting). fitting ≡ record { number = number; stand = l.stand })
    (Contains l.fn.fittings.items) (Contains l.fittings.items)
    (take l.number-index l.number-items)
