-- Events whose tokens follow each other through a text. Public: public contracts of this crate and of
-- the crates above speak of it.
use Rattle.std.specs.Prelude.{◌≡◌, ℕ, ◌<◌, ◌≤◌, List, [], ◌∷◌, length}
use Rattle.ux_tokens.specs.Tokens.{Token}
use Rattle.ux_outputs.specs.declared.event.Event.{Event}
use Rattle.ux_outputs.specs.declared.event.Event.TheVariants.{Take, Put, Value, Begin, End, Cut}

-- The events take tokens from one position to another: each `Take` takes some, from where the one
-- before it ended. Other events take nothing.
abbrev pub Follows : (start end : ℕ) → List Event → Type 0
Follows start end [] = start ≡ end
Follows start end (Take from to ∷ later) =
    (from ≡ start) × (start < to) × Follows to end later
Follows start end (Put text ∷ later) = Follows start end later
Follows start end (Value text ∷ later) = Follows start end later
Follows start end (Begin text ∷ later) = Follows start end later
Follows start end (End text ∷ later) = Follows start end later
Follows start end (Cut ∷ later) = Follows start end later

-- Each event takes tokens, from where the one before ended, and there is no other event. So the events
-- follow each other.
abbrev pub AreTakes : (start end : ℕ) → List Event → Type 0
AreTakes start end [] = start ≡ end
AreTakes start end (event ∷ later) =
    (to : ℕ) × (event ≡ Take start to) × (start < to) × AreTakes to end later

-- the events take tokens of the text, from the start to some later position
pub record FollowWithin (tokens : List Token) (start : ℕ) (events : List Event) : Type 0 where
  pub end : ℕ
  pub follows : Follows start end events
  pub within : end ≤ length tokens
