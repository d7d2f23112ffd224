-- What a search through a graph tells of its nodes. Inner: the crate's own functions alone speak of
-- it.
use Rattle.std.specs.Prelude.{◌≡◌, ◌↔◌, ◌<◌, ℕ, List, length, Contains, Bool, true, get_or, cond, []}
use Rattle.ux_digraph.specs.Paths.{row_of, Path, Reaches}
use Rattle.ux_digraph.specs.Rules.{is_marked_at}
use Rattle.ux_inflect.specs.declared.survey.Survey.{Survey}

-- For each node whether a path from the start reaches it, whether it then lies on a cycle, and a rank
-- that falls along each edge from there where none does.
pub record IsSurveyOf (rows : List (List ℕ)) (start : ℕ) (marks cycles : List Bool)
    (ranks : List ℕ) : Type 0 where
  pub reached : (u : ℕ) → (is_marked_at marks u ≡ true) ↔ Reaches rows start u
  pub cyclic : (u : ℕ) → (is_marked_at cycles u ≡ true) ↔ (Reaches rows start u × Path rows u u)
  pub len : length ranks ≡ length rows
  pub falls : ((u : ℕ) → is_marked_at cycles u ≡ true → ⊥) → (u v : ℕ) →
      Reaches rows start u → Contains (row_of rows u) v → get_or ranks v 0 < get_or ranks u 0

abbrev pub IsSurvey : List (List ℕ) → ℕ → Survey → Type 0
IsSurvey rows start survey =
    IsSurveyOf rows start survey.reached.items survey.cyclic.items survey.ranks.items

-- the rows of the nodes that are marked; the others have none
pub record AreKept (rows : List (List ℕ)) (marks : List Bool) (kept : List (List ℕ)) : Type 0 where
  pub len : length kept ≡ length rows
  pub row : (u : ℕ) → row_of kept u ≡ cond (is_marked_at marks u) (row_of rows u) []

-- an edge of the node leads to one of the same number
abbrev pub IsLevel : List ℕ → List ℕ → ℕ → Type 0
IsLevel row numbers number = (v : ℕ) × Contains row v × (get_or numbers v 0 ≡ number)
