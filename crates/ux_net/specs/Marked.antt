-- Marks of states from which it follows that what a net enters can be searched in an order. They
-- speak of one edge after another, and of no run. Public: contracts above speak of it.
use Rattle.std.specs.Prelude.{◌≡◌, ℕ, ◌<◌, ◌≤◌, List, Some, slice_get, Contains, IsTrue, Bool, true}
use Rattle.ux_net.specs.declared.label.Label.{Label}
use Rattle.ux_net.specs.declared.label.Label.TheVariants as label
use Rattle.ux_net.specs.declared.state.Edge.{Edge}
use Rattle.ux_net.specs.declared.state.State.{State}
use Rattle.ux_net.specs.declared.net_graph.NetGraph.{NetGraph}
use Rattle.ux_net.specs.Measured.{rank_of}
use Rattle.ux_net.specs.Nets.{states_of}

-- For each state of each graph: a rank; a level; whether an end may be reached from it with nothing
-- taken; and the states into which edges close that may be reached from it.
pub record Marks : Type 0 where
  pub rank : (g state : ℕ) → ℕ
  pub level : (g state : ℕ) → ℕ
  pub free : (g state : ℕ) → Bool
  pub closers : (g state : ℕ) → List ℕ

module _ (marks : Marks) where
  -- what closes behind b is told at a, and b has no higher level
  pub record Keeps (g a b : ℕ) : Type 0 where
    pub closers : (c : ℕ) → Contains (marks.closers g b) c → Contains (marks.closers g a) c
    pub level : marks.level g b ≤ marks.level g a

  -- the same, and with nothing taken between the rank doesn't rise, and ends are told
  pub record Stands (g a b : ℕ) : Type 0 where
    pub keeps : Keeps g a b
    pub rank : marks.rank g b ≤ marks.rank g a
    pub free : marks.free g b ≡ true → marks.free g a ≡ true

  -- wherever the body from b is closed, the marks stand
  abbrev pub StandsBehind : (g a b : ℕ) → Type 0
  StandsBehind g a b = (c : ℕ) → Contains (marks.closers g b) c → Stands g a c

  -- what holds of an edge of this label from state a to state b
  abbrev pub HoldAlong : (g a b : ℕ) → Label → Type 0
  HoldAlong g a b label.Empty = Stands g a b
  HoldAlong g a b label.NoSpace = Stands g a b
  HoldAlong g a b (label.Begin name) = Stands g a b
  HoldAlong g a b (label.End name) = Stands g a b
  HoldAlong g a b label.Cut = Stands g a b
  HoldAlong g a b (label.Call h) =
      Keeps g a b × (marks.level h 0 ≤ marks.level g a) × (marks.rank h 0 < marks.rank g a)
      × (marks.free h 0 ≡ true → Stands g a b)
  HoldAlong g a b label.Positive =
      (marks.level g b ≤ marks.level g a) × (marks.rank g b < marks.rank g a) × StandsBehind g a b
  HoldAlong g a b label.Negative =
      (marks.level g b < marks.level g a) × (marks.rank g b < marks.rank g a) × StandsBehind g a b
  HoldAlong g a b label.ContextEnd = Contains (marks.closers g a) b
  HoldAlong g a b x = Keeps g a b

-- the marks hold along each edge of the net, its final states are marked, and levels are below the top
pub record AreMarksOf (net : List NetGraph) (top : ℕ) (marks : Marks) : Type 0 where
  pub ends : (g a : ℕ) (state : State) → slice_get (states_of net g) a ≡ Some state →
      IsTrue state.is_final → marks.free g a ≡ true
  pub edges : (g a : ℕ) (state : State) (edge : Edge) →
      slice_get (states_of net g) a ≡ Some state → Contains state.edges edge →
      HoldAlong marks g a edge.target edge.label
  pub below : (g a : ℕ) → marks.level g a < top

-- The net has marks, of which the ranks are its own, and all levels are below a top that 32 bits
-- number.
pub record IsMarked (net : List NetGraph) : Type 0 where
  pub top : ℕ
  pub few : top < 4294967296
  pub marks : Marks
  pub ranked : (g state : ℕ) → marks.rank g state ≡ rank_of net g state
  pub are : AreMarksOf net top marks
