-- What is put out for the letters of a setting. Inner: the crate's own functions alone speak of it.
use Rattle.std.specs.Prelude.{◌≡◌, ◌↔◌, ℕ, List, [], ◌∷◌, ◌++◌, Contains, length}
use Rattle.ux_dela.specs.Signs.{COMMA}
use Rattle.ux_dela.specs.declared.entry.Entry.{Entry}
use Rattle.ux_net.specs.Nets.{net_grammar}
use Rattle.ux_outputs.specs.declared.event.Event.{Event}
use Rattle.ux_tokens.specs.Tokens.{Token}
use Rattle.ux_walk.specs.Settings.{Setting}
use Rattle.ux_morpho.specs.Analyses.{IsLineOf, PutsFor, RendersAs, SaysOne, printed_form}

-- the net of the setting puts this out for all of its letters
abbrev pub PutsIn : Setting → (output : List ℕ) → Type 0
PutsIn setting output =
    PutsFor setting.alphabet setting.tokens setting.tables (net_grammar setting.net) output

-- a derivation, an end and its events, takes all letters and renders this
abbrev pub RendersWhole : List Token → ℕ × List Event → (output : List ℕ) → Type 0
RendersWhole letters derivation output =
    (derivation.0 ≡ length letters) × RendersAs letters derivation.1 output

-- the entry of a form that is its own lemma, without codes
abbrev pub bare : List ℕ → Entry
bare form = record { form = form; lemma = form; gram = []; sem = []; infl = [] }

-- what stands before an output in its line
abbrev pub front_of : List ℕ → List ℕ
front_of token = printed_form token ++ COMMA ∷ []

-- the lines are those of these outputs, and each says one entry
pub record AreLinesOf (token : List ℕ) (outputs lines : List (List ℕ)) : Type 0 where
  pub exactly : (line : List ℕ) → Contains lines line
      ↔ ((output : List ℕ) × Contains outputs output × IsLineOf token output line)
  pub each : (output : List ℕ) → Contains outputs output → (entry : Entry) × SaysOne token output entry

-- one of the outputs says no single entry
abbrev pub HasBadAmong : (token : List ℕ) → (outputs : List (List ℕ)) → Type 0
HasBadAmong token outputs = (output : List ℕ) × Contains outputs output
    × ((entry : Entry) → SaysOne token output entry → ⊥)
