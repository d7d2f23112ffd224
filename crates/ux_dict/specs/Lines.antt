-- How a dictionary takes up its entries line by line. Inner: the crate's own functions alone speak of
-- it.
use Rattle.std.specs.Prelude.{◌≡◌, ℕ, List, ◌++◌}
use Rattle.ux_dela.specs.Delaf.{DelafSays}
use Rattle.ux_dela.specs.declared.entry.Entry.{Entry}

-- what the line says stands behind the old entries
pub record IsPutBehind (line : List ℕ) (old new : List Entry) : Type 0 where
  pub said : List Entry
  pub says : DelafSays line said
  pub put : new ≡ old ++ said
