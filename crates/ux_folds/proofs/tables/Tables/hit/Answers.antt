use Rattle.ux_folds.proofs.TablesLemmas.{no_hit}
use Rattle.ux_folds.proofs.tables.Tables.hit.Goals as goal

pub returns-in_default : goal.returns-in_default
returns-in_default c = λ names state sound h.
    no_hit c.args.text.now names c.args.self.now c.args.kept state c.in_default.is h
