-- Events as numbers: where an event has a text, the noted one has its place in a table of texts.
-- Inner: the crate's own functions alone speak of it.
use Rattle.std.specs.Prelude.{◌≡◌, ℕ, List, Some, slice_get}
use Rattle.std.specs.List.{AllZip}
use Rattle.ux_outputs.specs.declared.event.Event.{Event}
use Rattle.ux_outputs.specs.declared.event.Event.TheVariants as event
use Rattle.ux_walk.specs.declared.lists.Link.{Link}
use Rattle.ux_tokens.specs.Numbers.{texts_in}
use Rattle.ux_walk.specs.declared.noted.Noted.{Noted}
use Rattle.ux_walk.specs.declared.noted.Noted.TheVariants as note
use Rattle.ux_walk.specs.declared.texts.Texts.{Texts}
use Rattle.ux_walk.specs.Links.{Names}

-- the texts of a table, by place
abbrev pub listed_in : Texts → List (List ℕ)
listed_in table = texts_in table.texts

-- the event is of the text at the place
abbrev pub IsOfText : List (List ℕ) → ℕ → (List ℕ → Event) → Event → Type 0
IsOfText texts place of e = (text : List ℕ) × (slice_get texts place ≡ Some text) × (e ≡ of text)

-- the noted event stands for the event, by a table of texts
abbrev pub StandsFor : List (List ℕ) → Noted → Event → Type 0
StandsFor texts (note.Take from to) e = e ≡ event.Take from to
StandsFor texts (note.Put place) e = IsOfText texts place (λ text. event.Put text) e
StandsFor texts (note.Value place) e = IsOfText texts place (λ text. event.Value text) e
StandsFor texts (note.Begin place) e = IsOfText texts place (λ text. event.Begin text) e
StandsFor texts (note.End place) e = IsOfText texts place (λ text. event.End text) e
StandsFor texts note.Cut e = e ≡ event.Cut

-- the number names a list of noted events that stand for these, latest first
pub record NamesEvents (texts : List (List ℕ)) (links : List (Link Noted)) (number : ℕ)
    (events : List Event) : Type 0 where
  pub listed : List Noted
  pub names : Names links number listed
  pub each : AllZip (StandsFor texts) listed events

-- each text keeps its place
abbrev pub KeepPlaces : (old new : List (List ℕ)) → Type 0
KeepPlaces old new = (place : ℕ) (text : List ℕ) → slice_get old place ≡ Some text →
    slice_get new place ≡ Some text

-- the text has a place in the new table, in which each text of the old one keeps its own
pub record IsPlacedIn (old new : List (List ℕ)) (text : List ℕ) (place : ℕ) : Type 0 where
  pub at : slice_get new place ≡ Some text
  pub kept : KeepPlaces old new
