-- The concordance that a search answers. Public, through `Concord`.
use Rattle.std.specs.Prelude.{ℕ, List}
use Rattle.ux_base.specs.declared.settings.Mode.{Mode}
use Rattle.ux_base.specs.declared.settings.NoVar.{NoVar}
use Rattle.ux_base.specs.declared.settings.Policy.{Policy}
use Rattle.ux_alphabet.specs.Letters.{Letters}
use Rattle.ux_tokens.specs.Tokens.{Token}
use Rattle.ux_apply.specs.Applied.{AreApplied}
use Rattle.ux_lexical_tables.specs.Tables.{Tables}
use Rattle.ux_apply.specs.declared.priority.Priority.{Priority}
use Rattle.ux_dela.specs.declared.entry.Entry.{Entry}
use Rattle.ux_net.specs.Words.{Grammar}
use Rattle.ux_outputs.specs.declared.hit.Hit.{Hit}
use Rattle.ux_locate.specs.Hits.{IsHit}
use Rattle.ux_locate.specs.Index.{IsKeptListing}
use Rattle.ux_concordance.specs.Concordance.{IsConcordance}
use Rattle.ux_cmd_concord.specs.declared.layout.Layout.{Layout}

-- the concordance of what the policy keeps of the grammar's hits in the text, to which the
-- dictionaries' entries are applied
pub record IsAppliedConcordance (alphabet : Letters) (tokens : List Token)
    (dics : List (Priority × List Entry)) (grammar : Grammar) (mode : Mode) (policy : Policy)
    (novar : NoVar) (layout : Layout) (answer : List ℕ) : Type 0 where
  pub tables : Tables
  pub applied : AreApplied alphabet dics tokens tables
  pub hits : List Hit
  pub listing : IsKeptListing policy (IsHit alphabet tokens tables grammar mode novar) hits
  pub is : IsConcordance tokens layout.left layout.right layout.sort hits answer
