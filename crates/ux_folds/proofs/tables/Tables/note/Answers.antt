use Rattle.std.proofs.lemmas.Result.{IfOk-weaker}
use Rattle.ux_outputs.specs.Variables.{noted_at}
use Rattle.ux_folds.proofs.VariablesLemmas.{noted, uncounted}
use Rattle.ux_folds.proofs.tables.Tables.note.Goals as goal

pub returns-in_default : goal.returns-in_default
returns-in_default c = λ tokens. uncounted tokens c.args.names.now c.args.self.now c.args.kept
    c.args.name.now (λ state. noted_at state.position) c.in_default.ensures

pub returns : goal.returns
returns c = IfOk-weaker c.know.result _ _ (λ next knows tokens.
    noted tokens c.args.names.now c.args.self.now c.know.new.self c.args.kept next c.args.name.now
    c.in-Some.place c.in-Some.ensures c.in_ok-known.known
    (c.in_ok-known.ensures tokens c.args.names.now) knows) c.know.ensures
