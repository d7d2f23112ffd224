-- What an automaton's states accept: right languages, and when an automaton is minimal. Public: the
-- crate's public contracts speak of it.
use Rattle.std.specs.Prelude.{◌≡◌, ℕ, ◌<◌, ◌+◌, ◌^◌, List, [], ◌∷◌, ◌⊎◌, ◌↔◌, Some, slice_get, Contains, length}
use Rattle.ux_dawg.specs.declared.state.State.{State}
use Rattle.ux_dawg.specs.declared.state.Edge.{Edge}

abbrev pub edge : ℕ → ℕ → Edge
edge a t = record { letter = a; target = t }

-- from the state s the word w leads to an end with the code c
abbrev pub Right : List State → State → List ℕ → ℕ → Type 0
Right states s [] c = s.code ≡ Some c
Right states s (a ∷ w) c =
    (t : ℕ) × (next : State) × Contains s.edges (edge a t) × (slice_get states t ≡ Some next)
    × Right states next w c

-- from state number i the word w leads to an end with the code c
abbrev pub IsPath : List State → ℕ → List ℕ → ℕ → Type 0
IsPath states i w c = (s : State) × (slice_get states i ≡ Some s) × Right states s w c

-- the word leads from the root, the last state, to an end with the code c
abbrev pub Accepts : List State → List ℕ → ℕ → Type 0
Accepts states w c = (root : ℕ) × (length states ≡ root + 1) × IsPath states root w c

-- the word u leads from state number i to state number j
abbrev pub Leads : List State → ℕ → List ℕ → ℕ → Type 0
Leads states i [] j = i ≡ j
Leads states i (a ∷ u) j =
    (t : ℕ) × (s : State) × (slice_get states i ≡ Some s) × Contains s.edges (edge a t)
    × Leads states t u j

-- the letters ascend
abbrev pub AreAscending : List Edge → Type 0
AreAscending [] = Unit {0}
AreAscending (e ∷ es) = ((d : Edge) → Contains es d → e.letter < d.letter) × AreAscending es

-- the steps of a state lead to states with lower numbers than n
pub record IsFit (n : ℕ) (s : State) : Type 0 where
  pub ascending : AreAscending s.edges
  pub within : (e : Edge) → Contains s.edges e → e.target < n

-- the edges of each state ascend and lead to lower numbers
abbrev pub AreStates : List State → Type 0
AreStates states = (i : ℕ) (s : State) → slice_get states i ≡ Some s → IsFit i s

-- states that make an automaton, the last one its root: there are some, few enough for numbers of
-- 32 bits
pub record MakeAutomaton (states : List State) : Type 0 where
  pub some : 0 < length states
  pub few : length states < 2 ^ 32
  pub fit : AreStates states

-- a form ends here, or a step goes on
abbrev pub IsAlive : State → Type 0
IsAlive s = ((c : ℕ) × (s.code ≡ Some c)) ⊎ ((e : Edge) × Contains s.edges e)

-- each state is reached from the root, and states with the same paths are one
pub record IsMinimal (states : List State) (root : ℕ) : Type 0 where
  pub reached : (i : ℕ) → i < length states → (u : List ℕ) × Leads states root u i
  pub apart : (i j : ℕ) → i < length states → j < length states →
      ((w : List ℕ) (c : ℕ) → IsPath states i w c ↔ IsPath states j w c) → i ≡ j

-- from each state there is a path
abbrev pub HavePaths : List State → Type 0
HavePaths states = (i : ℕ) → i < length states → (w : List ℕ) × (c : ℕ) × IsPath states i w c

-- a step from state number i that reads a leads to state number t
abbrev pub IsStep : List State → ℕ → ℕ → ℕ → Type 0
IsStep states i a t = (s : State) × (slice_get states i ≡ Some s) × Contains s.edges (edge a t)

-- the edge stands at place k among those of state number i
abbrev pub IsEdge : List State → ℕ → ℕ → Edge → Type 0
IsEdge states i k e = (s : State) × (slice_get states i ≡ Some s) × (slice_get s.edges k ≡ Some e)
