use Rattle.ux_folds.proofs.TablesLemmas.{once_none, sound_none}
use Rattle.ux_folds.proofs.tables.Tables.new.Goals as goal

pub returns : goal.returns
returns c = λ names once. record {
  names_once = once;
  texts = sound_none _ c.new.ensures;
  variables = sound_none _ c.new-2.ensures;
  states = once_none _ c.new-3.ensures;
}
