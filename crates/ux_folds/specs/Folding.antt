-- What a fold makes of events. Its states are numbers, to which it gives a meaning as it goes. Public:
-- the clauses and laws of folds speak of it.
use Rattle.std.specs.Prelude.{◌≡◌, ℕ, List, [], ◌∷◌, Option, Some, None}
use Rattle.ux_outputs.specs.declared.event.Event.{Event}
use Rattle.ux_outputs.specs.declared.event.Event.TheVariants as event
use Rattle.ux_folds.specs.declared.fold.LentEvent.{LentEvent}
use Rattle.ux_folds.specs.declared.fold.LentEvent.TheVariants as lent

-- the event whose text is lent
abbrev pub event_of : LentEvent → Event
event_of (lent.Take from to) = event.Take from to
event_of (lent.Put text) = event.Put text.now
event_of (lent.Value text) = event.Value text.now
event_of (lent.Begin text) = event.Begin text.now
event_of (lent.End text) = event.End text.now
event_of lent.Cut = event.Cut

-- what becomes of a state by one more event: another one, or None where the derivation is dropped
abbrev pub Next : Type 1
Next = ℕ → Event → Option ℕ → Type 0

-- what becomes of a state by these events
abbrev pub Folds : Next → List Event → Option ℕ → Option ℕ → Type 0
Folds next [] s r = r ≡ s
Folds next (e ∷ es) None r = r ≡ None
Folds next (e ∷ es) (Some s) r = (m : Option ℕ) × next s e m × Folds next es m r

-- what was told stays told: what becomes of a state, and what it means
pub record Grows {M : Type 0} (old new : Next) (old_means new_means : ℕ → M → Type 0) : Type 0 where
  pub next : (s : ℕ) (e : Event) (r : Option ℕ) → old s e r → new s e r
  pub means : (s : ℕ) (m : M) → old_means s m → new_means s m
