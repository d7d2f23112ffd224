-- Indexes of a state's edges by the tokens that its literals fit. Public: crates above look edges
-- up by them.
use Rattle.std.specs.Prelude.{◌≡◌, ℕ, List, Some, slice_get, Contains}
use Rattle.std.specs.List.Sorted.{IsNonDecreasingBy}
use Rattle.ux_alphabet.specs.Letters.{Letters}
use Rattle.ux_net.specs.declared.state.Edge.{Edge}
use Rattle.ux_walk.specs.declared.edge_index.Fitting.{Fitting}
use Rattle.ux_walk.specs.declared.edge_index.EdgeIndex.{EdgeIndex}
use Rattle.ux_walk.specs.Literals.{IsFitted, IsLiteral}

-- the edge at a place fits the token of a number
abbrev pub fits_at : (number place : ℕ) → Fitting
fits_at number place = record { number = number; place = place }

abbrev pub number_of : Fitting → ℕ
number_of fitting = fitting.number

abbrev pub place_of : Fitting → ℕ
place_of fitting = fitting.place

-- Each literal edge stands with each token that it fits, in the order of the tokens' numbers, and
-- each other edge stands apart.
pub record IsIndexOf (alphabet : Letters) (texts : List (List ℕ)) (edges : List Edge)
    (index : EdgeIndex) : Type 0 where
  pub ordered : IsNonDecreasingBy number_of index.fittings.items
  pub literals : (place number : ℕ) (edge : Edge) → slice_get edges place ≡ Some edge →
      IsFitted alphabet texts edge.label number →
      Contains index.fittings.items (fits_at number place)
  pub others : (place : ℕ) (edge : Edge) → slice_get edges place ≡ Some edge →
      (IsLiteral edge.label → ⊥) → Contains index.others.items place
