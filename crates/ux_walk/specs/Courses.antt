-- Courses of a walk: where a walk may stand, and how it goes one step on. Public: the contracts of
-- the automaton speak of it.
use Rattle.std.specs.Prelude.{◌≡◌, ℕ, List, [], ◌∷◌, ◌++◌, ◌⊎◌, Some, slice_get, Contains, IsTrue, map, reverse}
use Rattle.ux_alphabet.specs.Letters.{Letters}
use Rattle.ux_tokens.specs.Tokens.{Token}
use Rattle.ux_lexical_tables.specs.Accepting.{Accepts}
use Rattle.ux_lexical_tables.specs.Tables.{Tables}
use Rattle.ux_net.specs.declared.label.Label.{Label}
use Rattle.ux_grf.specs.declared.item.Piece.{Piece}
use Rattle.ux_grf.specs.declared.item.Piece.TheVariants.{Chars, Value}
use Rattle.ux_net.specs.declared.label.Label.TheVariants.{Empty, NoSpace, Begin, End, Cut, Call}
use Rattle.ux_net.specs.declared.state.Edge.{Edge}
use Rattle.ux_net.specs.declared.state.State.{State}
use Rattle.ux_net.specs.declared.net_graph.NetGraph.{NetGraph}
use Rattle.ux_net.specs.Nets.{IsPlain, states_of}
use Rattle.ux_outputs.specs.declared.event.Event.{Event}
use Rattle.ux_outputs.specs.declared.event.Event.TheVariants as event
use Rattle.ux_meaning.specs.Texts.{IsSpaceAt, Takes}
use Rattle.ux_walk.specs.declared.config.Frame.{Frame}
use Rattle.ux_walk.specs.Contexts.{Applying, Opens}

-- the event that a piece of an output gives
abbrev pub put_event : Piece → Event
put_event (Chars text) = event.Put text
put_event (Value name) = event.Value name

-- the events that an output gives, in order
abbrev pub put_events : List Piece → List Event
put_events output = map put_event output

-- the events that a label gives which takes nothing: a variable begins or ends, or what stands on
-- the left is cut off
abbrev pub passing : Label → List Event
passing (Begin name) = event.Begin name ∷ []
passing (End name) = event.End name ∷ []
passing Cut = event.Cut ∷ []
passing other = []

-- the frames to go through, innermost first, the position, and the events before, latest first
pub record Course : Type 0 where
  pub frames : List Frame
  pub at : ℕ
  pub before : List Event

-- the frame at another state of its graph
abbrev pub at_state : Frame → ℕ → Frame
at_state f target = record { graph = f.graph; state = target }

-- the course that goes on in a frame's graph behind a context that is closed into c
abbrev pub IsClosed : Frame → List Frame → ℕ → List Event → (c : ℕ) → Course → Type 0
IsClosed f fs i before c w =
    w ≡ record { frames = at_state f c ∷ fs; at = i; before = before }

-- the label applies at the position and takes nothing: the empty word, `#` where no space is, a
-- variable's begin or end, or a cut
abbrev pub Passes : List Token → Label → ℕ → Type 0
Passes tokens Empty p = Unit {0}
Passes tokens NoSpace p = IsSpaceAt tokens p → ⊥
Passes tokens (Begin name) p = Unit {0}
Passes tokens (End name) p = Unit {0}
Passes tokens Cut p = Unit {0}
Passes tokens other p = ⊥

module _ (alphabet : Letters) (tokens : List Token) (tables : Tables) where
  -- the label is one that stands in nets, and takes the tokens from position p to position k
  abbrev pub TakesPlainly : Label → ℕ → ℕ → Type 0
  TakesPlainly label p k =
      IsPlain label × Takes alphabet tokens (Accepts alphabet tokens tables) label p k

  module _ (applies : Applying) where
    -- the course after a label, which leads to a frame: the label takes tokens, or passes, or calls a
    -- graph that is entered; where it opens a context that applies, the frame goes on behind that
    abbrev pub IsBehind : Label → Frame → List Frame → ℕ → List Event → Course → Type 0
    IsBehind label f fs i before w =
        ((k : ℕ) × TakesPlainly label i k
        × (w ≡ record { frames = f ∷ fs; at = k; before = event.Take i k ∷ before }))
        ⊎ ((Passes tokens label i
        × (w ≡ record { frames = f ∷ fs; at = i; before = passing label ++ before }))
        ⊎ (((h : ℕ) × (label ≡ Call h) × applies.enters h i × (w ≡ record {
          frames = record { graph = h; state = 0 } ∷ f ∷ fs;
          at = i;
          before = before;
        }))
        ⊎ ((c : ℕ) × Opens label × applies.contexts f.graph label f.state i c
        × IsClosed f fs i before c w)))

    -- the course after an edge: its output comes before what its label gives
    abbrev pub IsOver : Frame → List Frame → ℕ → List Event → Edge → Course → Type 0
    IsOver f fs i before edge w =
        IsBehind edge.label (at_state f edge.target) fs i
        (reverse (put_events edge.output) ++ before) w

    -- the course after one of the edges
    abbrev pub IsOverSome : Frame → List Frame → ℕ → List Event → List Edge → Course → Type 0
    IsOverSome f fs i before edges w =
        (edge : Edge) × Contains edges edge × IsOver f fs i before edge w

    -- the course after the edge at a place, if one stands there
    abbrev pub IsOverAt : Frame → List Frame → ℕ → List Event → List Edge → ℕ → Course → Type 0
    IsOverAt f fs i before edges n w =
        (edge : Edge) × (slice_get edges n ≡ Some edge) × IsOver f fs i before edge w

    -- the course after the edge at one of the places
    abbrev pub IsOverSomeAt : Frame → List Frame → ℕ → List Event → List Edge → List ℕ → Course →
        Type 0
    IsOverSomeAt f fs i before edges places w =
        (n : ℕ) × Contains places n × IsOverAt f fs i before edges n w

    -- a course one step on: over an edge of the state, or back to the next frame from a final one
    abbrev pub GoesOn : List NetGraph → Frame → List Frame → ℕ → List Event → Course → Type 0
    GoesOn graphs f fs i before w =
        (state : State) × (slice_get (states_of graphs f.graph) f.state ≡ Some state)
        × (IsOverSome f fs i before state.edges w
        ⊎ (IsTrue state.is_final × (w ≡ record { frames = fs; at = i; before = before })))
