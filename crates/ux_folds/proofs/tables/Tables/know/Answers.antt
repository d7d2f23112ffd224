use Rattle.std.proofs.Common.{◌∙◌, refl}
use Rattle.ux_folds.proofs.VariablesLemmas.{known_changed}
use Rattle.ux_folds.proofs.tables.Tables.know.Goals as goal

pub returns : goal.returns
returns c = known_changed c.args.self.now
    (record c.args.self.now { variables = c.extend.new.self }) c.args.kept c.args.place
    c.args.known c.in_ok-knowns.knowns.items c.as_slice.result.now c.in_ok-variables.variables
    c.in_ok-knowns.ensures (λ lt. c.as_slice.ensures.value ∙ c.set_at.ensures lt) refl refl c.in_ok-variables.ensures
