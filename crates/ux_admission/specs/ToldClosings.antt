-- What a net tells of the contexts of a graph that may not follow: for the state into which one opens,
-- the state into which it is closed. Public: contracts of compiling speak of it.
use Rattle.std.specs.Prelude.{ℕ, List, [], ◌∷◌, length, Bool, true, false, cond}
use Rattle.std.specs.List.{range_with_len, flat_map, list_any}
use Rattle.ux_net.specs.declared.label.Label.{Label}
use Rattle.ux_net.specs.declared.label.Label.TheVariants.{Negative}
use Rattle.ux_net.specs.declared.net_graph.Closing.{Closing}
use Rattle.ux_boxes.specs.declared.place.Place.{Place}
use Rattle.ux_boxes.specs.Places.{label_lines}

-- a line that opens a context that may not follow
abbrev pub is_refusing : List Label → Bool
is_refusing (Negative ∷ []) = true
is_refusing line = false

-- such a context opens into the place
abbrev pub is_refused : List Place → ℕ → Bool
is_refused places p = list_any is_refusing (label_lines places p)

-- each place stands for a state of this number
module _ (number : ℕ → ℕ) where
  -- where the body from a place is closed, of which these are the closers: into the first of them
  abbrev pub closing_from : ℕ → List ℕ → List Closing
  closing_from p [] = []
  closing_from p (c ∷ later) = record { opening = number p; closing = number c } ∷ []

  -- the same, where the context may not follow
  abbrev pub closings_at : List Place → (row : ℕ → List ℕ) → ℕ → List Closing
  closings_at places row p = cond (is_refused places p) (closing_from p (row p)) []

  -- that of each place, where each has a row of closers
  abbrev pub closings_of : List Place → (row : ℕ → List ℕ) → List Closing
  closings_of places row = flat_map (closings_at places row) (range_with_len 0 (length places))
