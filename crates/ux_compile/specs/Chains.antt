-- The numbers by which the edges of a line lead. Inner: the crate's own functions alone speak of it.
use Rattle.std.specs.Prelude.{◌≡◌, ℕ, List}
use Rattle.ux_boxes.specs.declared.place.Place.{Place}
use Rattle.ux_compile.specs.declared.construct.Chain.{Chain}
use Rattle.ux_compile.specs.Construct.{number, first_chain}

-- the numbers are those of line l of place b
pub record IsChain (places : List Place) (b l : ℕ) (chain : Chain) : Type 0 where
  pub number : chain.number ≡ number places b
  pub first : chain.first ≡ first_chain places b l
