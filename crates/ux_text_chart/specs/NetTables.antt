-- What the charts of a net look up, and how they know the tokens of a text. Public: the contracts of the
-- chart of a text speak of it.
use Rattle.std.specs.Prelude.{◌≡◌, ℕ, List, Option, None, Some, slice_get}
use Rattle.ux_alphabet.specs.Letters.{Letters}
use Rattle.ux_net.specs.declared.net_graph.NetGraph.{NetGraph}
use Rattle.ux_chart.specs.Prepared.{IsPrepared}
use Rattle.ux_outputs.specs.Rendering.{skip}
use Rattle.ux_tokens.specs.Numbers.{different_texts}
use Rattle.ux_tokens.specs.Tokens.{Token}
use Rattle.ux_walk.specs.Literals.{AreReady}
use Rattle.ux_walk.specs.LookUps.{AreSound}
use Rattle.ux_walk.specs.declared.words.Words.{Words}
use Rattle.ux_text_chart.specs.PartIndexes.{IsPartIndex}
use Rattle.ux_text_chart.specs.declared.net_tables.NetTables.{NetTables}
use Rattle.ux_text_chart.specs.declared.net_tables.TokenAt.{TokenAt}
use Rattle.ux_text_chart.specs.declared.net_tables.TokenAt.TheVariants.{Number, Unknown, End}

-- a number tells the text of the token at position p, after an optional space
abbrev pub IsTokenAt : List (List ℕ) → List Token → (p : ℕ) → TokenAt → Type 0
IsTokenAt texts tokens p (Number number) = (there : Token)
    × (slice_get tokens (skip tokens p) ≡ Some there) × (slice_get texts number ≡ Some there.text)
IsTokenAt texts tokens p Unknown = Unit {0}
IsTokenAt texts tokens p End = slice_get tokens (skip tokens p) ≡ None

-- tokens have the numbers of their texts among these: those of the text itself, or those of the words
abbrev pub IsNumbering : Letters → List (List ℕ) → List Token → Option Words → Type 0
IsNumbering alphabet texts tokens None = texts ≡ different_texts tokens
IsNumbering alphabet texts tokens (Some words) = AreReady alphabet texts words

-- the tables are the net's, by the numbers of these texts
pub record AreTablesBy (alphabet : Letters) (texts : List (List ℕ)) (net : List NetGraph)
    (tables : NetTables) : Type 0 where
  pub prepared : IsPrepared net tables.prepared
  pub index : IsPartIndex alphabet texts net tables.prepared.parts tables.index
  pub look_ups : AreSound alphabet net texts tables.look_ups

-- the tables are the net's, by numbers that these tokens have
pub record AreTablesFor (alphabet : Letters) (tokens : List Token) (net : List NetGraph)
    (tables : NetTables) : Type 0 where
  pub texts : List (List ℕ)
  pub by : AreTablesBy alphabet texts net tables
  pub numbering : IsNumbering alphabet texts tokens tables.words
