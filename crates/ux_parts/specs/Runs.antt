-- What a search of states sees of the meaning: which states the runs of a graph reach, and where one
-- step leads. Public: the contracts of the table speak of it.
use Rattle.std.specs.Prelude.{◌≡◌, ℕ, ◌⊎◌, List}
use Rattle.ux_net.specs.declared.label.Label.{Label}
use Rattle.ux_net.specs.declared.label.Label.TheVariants as label
use Rattle.ux_net.specs.Words.{Letter, plain, Step, mark_of, closes, Grammar, Run, IsBody}
use Rattle.ux_outputs.specs.declared.event.Event.{Event}
use Rattle.ux_meaning.specs.Inputs.{Input}
use Rattle.ux_meaning.specs.Meaning.{Stays, Seq, RefusesBy}

-- the label leads from position i to position k by itself: it takes what stands there, or stays
abbrev pub Plain : Input → Label → (i k : ℕ) → Type 0
Plain input x i k =
    input.Takes x i k ⊎ ((k ≡ i) × (here : List Event) × Stays input (plain x) i here)

-- over an input and a grammar whose contexts are told by so many levels
module _ (input : Input) (grammar : Grammar) (levels : ℕ) where
  -- a run of graph g leads from a state to state a, and its word applies from position i to j
  pub record From (g state i a j : ℕ) : Type 0 where
    pub word : List Letter
    pub run : Run g (grammar.graph g) state a word
    pub events : List Event
    pub seq : Seq input grammar (RefusesBy input grammar levels) word i j events

  -- from the state an end is reached, at position j
  pub record Ends (g state i j : ℕ) : Type 0 where
    pub last : ℕ
    pub ends : (grammar.graph g).IsEnd last
    pub from : From g state i last j

  -- from the state a step is reached that closes a context and leads to state c
  pub record Closes (g state i c : ℕ) : Type 0 where
    pub step : Step
    pub inside : (grammar.graph g).IsStep step
    pub closed : mark_of step.labels ≡ closes
    pub after : step.to ≡ c
    pub at : ℕ
    pub from : From g state i step.from at

  -- the negative context whose body begins at the state and is closed into c applies at i
  pub record IsRefused (g state i c : ℕ) : Type 0 where
    pub word : List Letter
    pub body : IsBody g (grammar.graph g) state c word
    pub refused : RefusesBy input grammar levels g state c i

  -- A step of this label, to state `to`, leads from position i to state b and position k. A call
  -- leads as far as its graph has ends, and a context to the states into which it is closed.
  abbrev pub NextBy : (g : ℕ) → Label → (to i b k : ℕ) → Type 0
  NextBy g label.Empty to i b k = (b ≡ to) × (k ≡ i)
  NextBy g (label.Call h) to i b k = (b ≡ to) × Ends h (grammar.graph h).start i k
  NextBy g label.Positive to i b k = (k ≡ i) × Closes g to i b
  NextBy g label.Negative to i b k = (k ≡ i) × IsRefused g to i b
  NextBy g label.ContextEnd to i b k = ⊥
  NextBy g x to i b k = (b ≡ to) × Plain input x i k
