-- Which contexts are refused: those that aren't closed before the end of their graph, or not in one
-- place where nothing may follow, and those that are closed and weren't opened. The manual, on
-- contexts. Public: the crate's public contracts speak of it.
use Rattle.std.specs.Prelude.{◌≢◌, ℕ, ◌⊎◌, List}
use Rattle.ux_net.specs.Words.{Sign, negative, Letter, Grammar, Run}
use Rattle.ux_net.specs.Closers.{ClosesInto, OpensInto}

module _ (grammar : Grammar) (g node : ℕ) where
  -- a context opens into the node, and no body from there is closed
  pub record IsNeverClosed : Type 0 where
    pub sign : Sign
    pub opening : OpensInto grammar g sign node
    pub never : (c : ℕ) → ClosesInto grammar g node c → ⊥

  -- a context opens into the node, and a run from there reaches an end of the graph
  pub record IsOpenAtEnd : Type 0 where
    pub sign : Sign
    pub opening : OpensInto grammar g sign node
    pub last : ℕ
    pub ends : (grammar.graph g).IsEnd last
    pub word : List Letter
    pub run : Run g (grammar.graph g) node last word

  -- a context that may not follow opens into the node, and is closed into two places
  pub record IsClosedTwice : Type 0 where
    pub opening : OpensInto grammar g negative node
    pub first : ℕ
    pub second : ℕ
    pub apart : first ≢ second
    pub into_first : ClosesInto grammar g node first
    pub into_second : ClosesInto grammar g node second

  -- a run from the start closes into the node what it didn't open
  abbrev pub IsNeverOpened : Type 0
  IsNeverOpened = ClosesInto grammar g (grammar.graph g).start node

  -- a context is refused at the node
  abbrev pub IsBadContext : Type 0
  IsBadContext = (IsNeverClosed ⊎ IsOpenAtEnd) ⊎ (IsClosedTwice ⊎ IsNeverOpened)

-- no context of the grammar is refused
abbrev pub AreClosed : Grammar → Type 0
AreClosed grammar = (g node : ℕ) → IsBadContext grammar g node → ⊥
