-- What a search finds, start by start. Inner: the crate's own functions alone speak of it.
use Rattle.std.specs.Prelude.{◌≡◌, ◌↔◌, ℕ, ◌-◌, ◌<◌, ◌≤◌, List, Some, Contains}
use Rattle.std.specs.List.Sorted.{IsStrictlyIncreasing}
use Rattle.ux_base.specs.declared.settings.Policy.{Policy}
use Rattle.ux_base.specs.declared.settings.Policy.TheVariants.{Shortest, Longest, All}
use Rattle.ux_mask_table.specs.MaskedTexts.{HasTable}
use Rattle.ux_tokens.specs.Numbers.{different_texts}
use Rattle.ux_tokens.specs.Tokens.{Token}
use Rattle.ux_outputs.specs.declared.event.Event.{Event}
use Rattle.ux_outputs.specs.declared.hit.Hit.{Hit}
use Rattle.ux_outputs.specs.declared.span.Span.{Span}
use Rattle.ux_outputs.specs.Rendering.{render}
use Rattle.ux_walk.specs.Ends.{AreEnds}
use Rattle.ux_walk.specs.declared.look_ups.LookUps.{LookUps}
use Rattle.ux_walk.specs.LookUps.{AreSound}
use Rattle.ux_walk.specs.Settings.{Derives, Setting, masked_setting}
use Rattle.ux_walker.specs.FirstEnds.{IsFirstEnd}
use Rattle.ux_locate.specs.declared.search.Search.{Search}
use Rattle.ux_locate.specs.Hits.{IsStart}

-- the span from a start up to a later position
abbrev pub span_to : ℕ → ℕ → Span
span_to start end = record { first = start; last = end - 1 }

-- a derivation from the start ends so, and takes tokens
abbrev pub EndsAt : Setting → (start end : ℕ) → Type 0
EndsAt setting start end =
    (start < end) × (events : List Event) × Derives setting start end events

-- what a policy asks of the ends: where it keeps the shortest hits, the first one
abbrev pub AreEndsFor : Policy → Setting → (start : ℕ) → List ℕ → Type 0
AreEndsFor Shortest setting start ends = IsFirstEnd setting start ends
AreEndsFor Longest setting start ends = AreEnds setting start ends
AreEndsFor All setting start ends = AreEnds setting start ends

-- of the positions after a start this is the first one, if there is any
pub record IsFirstAfter (positions : List ℕ) (start : ℕ) (first : List ℕ) : Type 0 where
  pub exactly : (e : ℕ) → Contains first e ↔ (Contains positions e × (start < e)
      × ((other : ℕ) → Contains positions other → start < other → e ≤ other))
  pub some : (e : ℕ) → Contains positions e → start < e → (other : ℕ) × Contains first other
  pub ascending : IsStrictlyIncreasing first

-- the span is that from the start up to the end of a derivation
abbrev pub IsSpanFrom : Setting → (start : ℕ) → Span → Type 0
IsSpanFrom setting start span =
    (end : ℕ) × EndsAt setting start end × (span ≡ span_to start end)

-- the setting of a search
abbrev pub setting_in : Search → Setting
setting_in search =
    masked_setting search.masked.now

-- the table of masks is that of the grammar over the text
abbrev pub HasMasks : Search → Type 0
HasMasks search = HasTable search.masked.now

-- the tokens of the text that is searched
abbrev pub tokens_in : Search → List Token
tokens_in search = search.masked.now.text.now

-- the look-ups are those of the search
abbrev pub AreKeptFor : Search → LookUps → Type 0
AreKeptFor search look_ups =
    AreSound search.masked.now.alphabet.now search.masked.now.net.now
    (different_texts (tokens_in search)) look_ups

-- a derivation from the start, an end and its events, renders the hit
abbrev pub IsRendered : Search → (start : ℕ) → ℕ × List Event → Hit → Type 0
IsRendered search start derivation hit =
    render (tokens_in search) search.mode search.novar start derivation.1 ≡ Some hit

-- some derivation from the start does
abbrev pub IsHitFrom : Search → (start : ℕ) → Hit → Type 0
IsHitFrom search start hit = (end : ℕ) × (events : List Event)
    × Derives (setting_in search) start end events × IsRendered search start (end, events) hit

-- it comes from some start of a search
abbrev pub IsFound : {X : Type 0} → List Token → (From : ℕ → X → Type 0) → X → Type 0
IsFound tokens From x = (start : ℕ) × IsStart tokens start × From start x

-- it comes from a start before this one
abbrev pub IsFoundBefore : {X : Type 0} → List Token → (From : ℕ → X → Type 0) → ℕ → X → Type 0
IsFoundBefore tokens From count x =
    (start : ℕ) × (start < count) × IsStart tokens start × From start x

-- these are all that come from the starts
abbrev pub AreAllHits : Search → List Hit → Type 0
AreAllHits search hits = (hit : Hit) → Contains hits hit
    ↔ IsFound (tokens_in search) (IsHitFrom search) hit

-- those from the starts before this one
abbrev pub AreHitsBefore : Search → ℕ → List Hit → Type 0
AreHitsBefore search count hits = (hit : Hit) → Contains hits hit
    ↔ IsFoundBefore (tokens_in search) (IsHitFrom search) count hit

-- the position is a start, and the hit comes from it
abbrev pub IsHitAt : Search → ℕ → Hit → Type 0
IsHitAt search start hit = IsStart (tokens_in search) start × IsHitFrom search start hit
