-- What a walk is made for, and what it derives. Public: the crate's public contracts speak of it.
use Rattle.std.specs.Prelude.{ℕ, List}
use Rattle.ux_alphabet.specs.Letters.{Letters}
use Rattle.ux_tokens.specs.Tokens.{Token}
use Rattle.ux_net.specs.declared.net_graph.NetGraph.{NetGraph}
use Rattle.ux_net.specs.Nets.{net_grammar}
use Rattle.ux_mask_table.specs.declared.masked_text.MaskedText.{MaskedText}
use Rattle.ux_outputs.specs.declared.event.Event.{Event}
use Rattle.ux_lexical_tables.specs.Accepting.{Accepts}
use Rattle.ux_lexical_tables.specs.Tables.{Tables}
use Rattle.ux_meaning.specs.Inputs.{Input}
use Rattle.ux_meaning.specs.Texts.{text_input}
use Rattle.ux_meaning.specs.Meaning.{Der}

-- a grammar, the tokens of a text, the letters of its language, and the entries that apply to it
pub record Setting : Type 0 where
  pub net : List NetGraph
  pub tokens : List Token
  pub alphabet : Letters
  pub tables : Tables

-- the setting of these four
abbrev pub setting_of : List NetGraph → List Token → Letters → Tables → Setting
setting_of net tokens alphabet tables =
    record { net = net; tokens = tokens; alphabet = alphabet; tables = tables }

-- what the text is read for
abbrev pub masked_setting : MaskedText → Setting
masked_setting text = setting_of text.net.now text.text.now text.alphabet.now text.applied.now

-- a text as input, with the entries that apply to it
abbrev pub applied_text : Letters → List Token → Tables → Input
applied_text alphabet tokens tables = text_input alphabet tokens (Accepts alphabet tokens tables)

-- the main graph derives the events from one position to another
abbrev pub Derives : Setting → (start end : ℕ) → List Event → Type 0
Derives setting start end events =
    Der (applied_text setting.alphabet setting.tokens setting.tables) (net_grammar setting.net) 1
    start end events
