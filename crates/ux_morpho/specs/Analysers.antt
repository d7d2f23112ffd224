-- What is made of a grammar once for all tokens. Public: the crate's public contracts speak of it.
use Rattle.std.specs.Prelude.{List}
use Rattle.ux_mask_table.specs.NetMasks.{AreNetMasks}
use Rattle.ux_text_chart.specs.NetTables.{AreTablesFor}
use Rattle.ux_tokens.specs.Tokens.{Token}
use Rattle.ux_morpho.specs.declared.analyser.Analyser.{Analyser}

-- the masks are the net's, and so are the tables, for the letters of any token
pub record IsAnalyser (analyser : Analyser) : Type 0 where
  pub masks : AreNetMasks analyser.net.now analyser.masks
  pub tables : (letters : List Token) →
      AreTablesFor analyser.alphabet.now letters analyser.net.now analyser.tables
