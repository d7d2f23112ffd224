use Rattle.std.proofs.Common.{refl}
use Rattle.std.proofs.lemmas.Result.{IfOk-weaker}
use Rattle.ux_folds.proofs.TablesLemmas.{stands_same, state_placed}
use Rattle.ux_folds.proofs.tables.Tables.number.Goals as goal

pub returns-clause-tables : goal.returns-clause-tables
returns-clause-tables c = IfOk-weaker c.place.result _ _ (λ number first names sound.
    state_placed c.args.self.now (record c.args.self.now { states = c.place.new.set })
    c.args.kept number refl refl first names sound) c.place.ensures

pub returns-clause-stands : goal.returns-clause-stands
returns-clause-stands c = IfOk-weaker c.place.result _ _ (λ number first tokens names state h.
    stands_same tokens names c.args.self.now
    (record c.args.self.now { states = c.place.new.set }) refl refl c.args.kept state h)
    c.place.ensures
