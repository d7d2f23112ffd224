-- What runs of a graph derive, which configurations are reached, and from which of them a wanted end
-- is. Inner: the laws of the listing speak of it, and tell it by the meaning of grammars.
use Rattle.std.specs.Prelude.{ℕ, List, [], ◌++◌}
use Rattle.ux_outputs.specs.declared.event.Event.{Event}
use Rattle.ux_walk.specs.Contexts.{Applying}
use Rattle.ux_walk.specs.Settings.{Setting}
use Rattle.ux_listing.specs.declared.config.Mark.{Mark}
use Rattle.ux_listing.specs.Moves.{Moves, IsFinal, goes, calls}

module _ (setting : Setting) (applies : Applying) where
  -- a run of graph g from state a to a final one leads from p to j, with these events
  pub data Goes : (g a p j : ℕ) → List Event → Type 0 where
    ends : {g a p : ℕ} → IsFinal setting applies g a → Goes g a p p []
    along : {g a p b k j : ℕ} {later : List Event} (here : List Event) →
        Moves setting applies g a p (goes b k) here → Goes g b k j later →
        Goes g a p j (here ++ later)
    across : {g a p h b k j : ℕ} {inside later : List Event} (here : List Event) →
        Moves setting applies g a p (calls h b) here → Goes h 0 p k inside → Goes g b k j later →
        Goes g a p j (here ++ (inside ++ later))

  -- from the first state of graph g at i a run leads to state a at p, with these events
  pub data Way (g i : ℕ) : (a p : ℕ) → List Event → Type 0 where
    begins : Way g i 0 i []
    along : {a p b k : ℕ} {before : List Event} (here : List Event) → Way g i a p before →
        Moves setting applies g a p (goes b k) here → Way g i b k (before ++ here)
    across : {a p h b k : ℕ} {before inside : List Event} (here : List Event) →
        Way g i a p before → Moves setting applies g a p (calls h b) here →
        Goes h 0 p k inside → Way g i b k (before ++ (here ++ inside))

  module _ (start : ℕ) where
    -- graph g is entered at i
    pub data Entered : (g i : ℕ) → Type 0 where
      main : Entered 1 start
      called : {g i a p h b : ℕ} {before : List Event} (here : List Event) → Entered g i →
          Way g i a p before → Moves setting applies g a p (calls h b) here → Entered h p

    -- state a of graph g, entered at i, is reached at p
    pub record Reached (g i a p : ℕ) : Type 0 where
      pub entered : Entered g i
      pub before : List Event
      pub way : Way g i a p before

    -- the configuration is reached, and a run leads on to where its visit may be left
    pub record Leads (Exit : (g i e : ℕ) → Type 0) (m : Mark) : Type 0 where
      pub reached : Reached m.graph m.from m.state m.at
      pub last : ℕ
      pub later : List Event
      pub run : Goes m.graph m.state m.at last later
      pub exits : Exit m.graph m.from last

    -- once graph g, entered at i, is left at e, a wanted end is reached
    pub data Exits (Wanted : ℕ → Type 0) : (g i e : ℕ) → Type 0 where
      main : {e : ℕ} → Wanted e → Exits Wanted 1 start e
      back : {g i a p h b q e : ℕ} {later : List Event} (here : List Event) → Reached g i a p →
          Moves setting applies g a p (calls h b) here → Goes g b q e later →
          Exits Wanted g i e → Exits Wanted h p q

    -- each configuration from which a wanted end is reached is marked; others may be
    abbrev pub IsComplete : (ℕ → Type 0) → (Mark → Type 0) → Type 0
    IsComplete Wanted Marked = (m : Mark) → Leads (Exits Wanted) m → Marked m
