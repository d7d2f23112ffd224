-- A visit in progress: the states that were entered and not left. Inner: the crate's own functions
-- alone speak of it.
use Rattle.std.specs.Prelude.{◌≡◌, ℕ, ◌<◌, ◌≤◌, List, [], ◌∷◌, ◌++◌, Option, None, Some, All, drop, fold, length}
use Rattle.std.specs.List.{range_with_len}
use Rattle.ux_dawg.specs.declared.state.Edge.{Edge}
use Rattle.ux_dawg.specs.declared.state.State.{State}
use Rattle.ux_image_reader.specs.declared.visit.Frame.{Frame}
use Rattle.ux_image_reader.specs.Visit.{edges_at, left_after}

-- the states that were left once the edges were taken
abbrev pub left_behind : List State → List Edge → List ℕ → List ℕ
left_behind states edges left =
    fold (λ so_far (edge : Edge). left_after (length states) states so_far edge.target) left edges

-- the edges that weren't taken
abbrev pub edges_left : List State → Frame → List Edge
edges_left states frame = drop frame.place (edges_at states frame.state)

-- the states that were left once all these are, of which the last is the deepest
unfoldable pub left_at_end : List State → List Frame → List ℕ → List ℕ
left_at_end states [] left = left
left_at_end states (frame ∷ stack) left =
    left_behind states (edges_left states frame) (left_at_end states stack left)
    ++ frame.state ∷ []

-- a state, with a place among its edges
pub record IsFrame (states : List State) (frame : Frame) : Type 0 where
  pub state : frame.state < length states
  pub place : frame.place ≤ length (edges_at states frame.state)

-- the numbers below n
abbrev pub below : ℕ → List ℕ
below n = range_with_len 0 n

-- where the states below n were left, the state is left next, and the stack remains
pub record Leaves (states : List State) (n : ℕ) (old new : List Frame) (state : ℕ) : Type 0 where
  pub on : left_at_end states old (below n) ≡ left_at_end states new (below n ++ state ∷ [])
  pub frames : All (IsFrame states) new

-- where the states below n were left, the next edge to another state goes from the first frame to
-- the second, or there is none
pub record GoesTo (states : List State) (n : ℕ) (frame behind into : Frame) : Type 0 where
  pub on : left_behind states (edges_left states frame) (below n)
      ≡ left_behind states (edges_left states behind)
      (left_behind states (edges_left states into) (below n) ++ into.state ∷ [])
  pub same : behind.state ≡ frame.state
  pub less : into.state < frame.state
  pub behind_frame : IsFrame states behind
  pub into_frame : IsFrame states into

abbrev pub GoesOn : List State → (n : ℕ) → Frame → Option (Frame × Frame) → Type 0
GoesOn states n frame None = left_behind states (edges_left states frame) (below n) ≡ below n
GoesOn states n frame (Some frames) = GoesTo states n frame frames.0 frames.1
