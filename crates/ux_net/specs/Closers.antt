-- Into which places the contexts of a graph are closed. The manual, on contexts. Public: the crate's
-- public contracts speak of it.
use Rattle.std.specs.Prelude.{◌≡◌, ℕ, List}
use Rattle.ux_net.specs.Words.{Sign, Letter, Step, Grammar, opens, mark_of, IsBody}

-- a body that begins at place a of graph g is closed into place c
abbrev pub ClosesInto : Grammar → (g a c : ℕ) → Type 0
ClosesInto grammar g a c = (word : List Letter) × IsBody g (grammar.graph g) a c word

-- a step of graph g into the place opens a context of this sign
pub record OpensInto (grammar : Grammar) (g : ℕ) (sign : Sign) (opening : ℕ) : Type 0 where
  pub step : Step
  pub of_graph : (grammar.graph g).IsStep step
  pub to : step.to ≡ opening
  pub opens : mark_of step.labels ≡ opens sign
