-- What grammars are matched against. Public: the contracts of the walk and of the search speak of
-- it.
use Rattle.std.specs.Prelude.{ℕ}
use Rattle.ux_net.specs.declared.label.Label.{Label}

-- An input: which labels take what stands from one position to another, and at which positions a
-- space stands. Its positions may be places in a text, or the states of an automaton.
pub record Input : Type 1 where
  pub Takes : Label → ℕ → ℕ → Type 0
  pub IsSpaceAt : ℕ → Type 0
