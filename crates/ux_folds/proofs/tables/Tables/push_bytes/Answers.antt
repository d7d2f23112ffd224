use Rattle.std.proofs.Common.{refl}
use Rattle.std.proofs.lemmas.Result.{IfOk-weaker}
use Rattle.ux_folds.proofs.TablesLemmas.{bytes_pushed}
use Rattle.ux_folds.proofs.tables.Tables.push_bytes.Goals as goal

pub returns : goal.returns
returns c = IfOk-weaker c.extend.result _ _ (λ number more.
    bytes_pushed c.args.self.now (record c.args.self.now { texts = c.extend.new.self })
    c.args.front number c.args.more.now refl refl more) c.extend.ensures
