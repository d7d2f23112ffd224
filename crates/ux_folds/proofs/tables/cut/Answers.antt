use Rattle.std.proofs.lemmas.Str.{IsUtf8-nil}
use Rattle.ux_folds.proofs.TablesLemmas.{cut_off}
use Rattle.ux_folds.proofs.tables.cut.Goals as goal

pub returns : goal.returns
returns c = λ tokens names tables. cut_off tokens names tables c.args.kept IsUtf8-nil
