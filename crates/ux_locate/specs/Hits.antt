-- The hits of a grammar in a text: what its derivations render. The manual, on Locate. Public: the
-- crate's public contracts speak of it.
use Rattle.std.specs.Prelude.{◌≡◌, ℕ, List, Some}
use Rattle.ux_base.specs.declared.settings.Mode.{Mode}
use Rattle.ux_base.specs.declared.settings.NoVar.{NoVar}
use Rattle.ux_alphabet.specs.Letters.{Letters}
use Rattle.ux_tokens.specs.Tokens.{Token}
use Rattle.ux_lexical_tables.specs.Tables.{Tables}
use Rattle.ux_net.specs.Words.{Grammar}
use Rattle.ux_outputs.specs.declared.event.Event.{Event}
use Rattle.ux_outputs.specs.declared.hit.Hit.{Hit}
use Rattle.ux_outputs.specs.Rendering.{IsNoSpaceAt, render}
use Rattle.ux_meaning.specs.Meaning.{Der}
use Rattle.ux_walk.specs.Settings.{applied_text}

-- a search begins at the position: a token that is no space stands there
abbrev pub IsStart : List Token → (start : ℕ) → Type 0
IsStart tokens start = IsNoSpaceAt tokens start

-- The grammar gives this hit in the text with the entries that apply to it: its main graph derives
-- events from a start, and in the mode they render the hit.
pub record IsHit (alphabet : Letters) (tokens : List Token) (tables : Tables) (grammar : Grammar)
    (mode : Mode) (novar : NoVar) (hit : Hit) : Type 0 where
  pub start : ℕ
  pub starts : IsStart tokens start
  pub end : ℕ
  pub events : List Event
  pub derived : Der (applied_text alphabet tokens tables) grammar 1 start end events
  pub rendered : render tokens mode novar start events ≡ Some hit
