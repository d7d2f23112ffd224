-- The longest form of an automaton. Public: the crate's public contracts speak of it.
use Rattle.std.specs.Prelude.{ℕ, ◌+◌, ◌<◌, ◌≤◌, ◌^◌, List, [], ◌∷◌, length, max, slice_index}
use Rattle.ux_dawg.specs.declared.state.Edge.{Edge}
use Rattle.ux_dawg.specs.declared.state.Form.{Form}

-- how many letters the longest form has, 0 where there is none
abbrev pub longest_in : List Form → ℕ
longest_in [] = 0
longest_in (form ∷ forms) = max (length form.letters) (longest_in forms)

-- how many letters the longest way has that begins with one of the edges, where the states to which
-- they lead have these depths
abbrev pub deepest : (depths : List ℕ) → List Edge → ℕ
deepest depths [] = 0
deepest depths (edge ∷ edges) = max (1 + slice_index depths edge.target) (deepest depths edges)

-- no way is longer than there are states below
abbrev pub AreLow : (depths : List ℕ) → Type 0
AreLow depths = (length depths < 2 ^ 32)
    × ((k : ℕ) → k < length depths → slice_index depths k ≤ k)
