-- The index that a search answers. Public, through `Locate`.
use Rattle.std.specs.Prelude.{ℕ, List}
use Rattle.ux_base.specs.declared.settings.Mode.{Mode}
use Rattle.ux_base.specs.declared.settings.NoVar.{NoVar}
use Rattle.ux_base.specs.declared.settings.Policy.{Policy}
use Rattle.ux_alphabet.specs.Letters.{Letters}
use Rattle.ux_tokens.specs.Tokens.{Token}
use Rattle.ux_apply.specs.Applied.{AreApplied}
use Rattle.ux_lexical_tables.specs.Tables.{Tables}
use Rattle.ux_apply.specs.declared.priority.Priority.{Priority}
use Rattle.ux_dela.specs.declared.entry.Entry.{Entry}
use Rattle.ux_net.specs.Words.{Grammar}
use Rattle.ux_locate.specs.Hits.{IsHit}
use Rattle.ux_locate.specs.Index.{IsIndex}

-- the index of what the policy keeps of the grammar's hits in the text, to which the dictionaries'
-- entries are applied
pub record IsAppliedIndex (alphabet : Letters) (tokens : List Token)
    (dics : List (Priority × List Entry)) (grammar : Grammar) (mode : Mode) (policy : Policy)
    (novar : NoVar) (index : List ℕ) : Type 0 where
  pub tables : Tables
  pub applied : AreApplied alphabet dics tokens tables
  pub is : IsIndex mode policy (IsHit alphabet tokens tables grammar mode novar) index
