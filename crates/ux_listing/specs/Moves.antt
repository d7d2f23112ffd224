-- Where a graph goes on over an edge, at a position of the text. Inner, but that the meaning of runs
-- stands on it.
use Rattle.std.specs.Prelude.{◌≡◌, ℕ, List, [], ◌∷◌, ◌++◌, ◌⊎◌, Some, slice_get, Contains}
use Rattle.ux_net.specs.declared.label.Label.{Label}
use Rattle.ux_net.specs.declared.label.Label.TheVariants.{Call}
use Rattle.ux_net.specs.declared.state.Edge.{Edge}
use Rattle.ux_net.specs.declared.state.State.{State}
use Rattle.ux_net.specs.Nets.{IsNetEnd, states_of}
use Rattle.ux_outputs.specs.declared.event.Event.{Event}
use Rattle.ux_outputs.specs.declared.event.Event.TheVariants.{Take}
use Rattle.ux_walk.specs.Contexts.{Applying, Opens}
use Rattle.ux_walk.specs.Courses.{Passes, TakesPlainly, passing, put_events}
use Rattle.ux_walk.specs.Settings.{Setting}

-- a move: to state b at position k, or over a call of graph h to state b
pub data Move : Type 0 where
  goes : (b k : ℕ) → Move
  calls : (h b : ℕ) → Move

-- this move with these events, and no other
abbrev pub Only : Move → List Event → Move → List Event → Type 0
Only one own move events = (move ≡ one) × (events ≡ own)

module _ (setting : Setting) (applies : Applying) where
  -- the move that a label makes at position p which leads to a state, with the events that it gives: it
  -- takes tokens, or passes, or opens a context that applies, or calls
  abbrev pub Behind : (g : ℕ) → Label → (target p : ℕ) → Move → List Event → Type 0
  Behind g label target p (goes b k) own =
      (TakesPlainly setting.alphabet setting.tokens setting.tables label p k × (b ≡ target)
      × (own ≡ Take p k ∷ []))
      ⊎ ((Passes setting.tokens label p × (b ≡ target) × (k ≡ p) × (own ≡ passing label))
      ⊎ (Opens label × applies.contexts g label target p b × (k ≡ p) × (own ≡ [])))
  Behind g label target p (calls h b) own = (label ≡ Call h) × (b ≡ target) × (own ≡ [])

  -- the move over an edge: its output comes first
  abbrev pub Crosses : (g : ℕ) → Edge → (p : ℕ) → Move → List Event → Type 0
  Crosses g edge p move events = (own : List Event)
      × Behind g edge.label edge.target p move own × (events ≡ put_events edge.output ++ own)

  -- the move over one of the edges
  abbrev pub CrossesSome : (g : ℕ) → List Edge → (p : ℕ) → Move → List Event → Type 0
  CrossesSome g edges p move events =
      (edge : Edge) × Contains edges edge × Crosses g edge p move events

  -- the move over the edge at a place, and at one of these places
  abbrev pub CrossesAt : (g : ℕ) → List Edge → (place p : ℕ) → Move → List Event → Type 0
  CrossesAt g edges place p move events =
      (edge : Edge) × (slice_get edges place ≡ Some edge) × Crosses g edge p move events

  abbrev pub CrossesSomeAt : (g : ℕ) → List Edge → List ℕ → (p : ℕ) → Move → List Event → Type 0
  CrossesSomeAt g edges places p move events =
      (place : ℕ) × Contains places place × CrossesAt g edges place p move events

  -- the move from state a of graph g
  abbrev pub Moves : (g a p : ℕ) → Move → List Event → Type 0
  Moves g a p move events =
      (state : State) × (slice_get (states_of setting.net g) a ≡ Some state)
      × CrossesSome g state.edges p move events

  -- a run of graph g may end in state a
  abbrev pub IsFinal : (g a : ℕ) → Type 0
  IsFinal g a = IsNetEnd (states_of setting.net g) a
