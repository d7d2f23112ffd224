use Rattle.std.proofs.lemmas.Result.{IfOk-weaker}
use Rattle.ux_outputs.specs.Variables.{ended_output}
use Rattle.ux_folds.proofs.VariablesLemmas.{closes, closes_nothing, uncounted}
use Rattle.ux_folds.proofs.tables.Tables.close.Goals as goal

pub returns-in_default : goal.returns-in_default
returns-in_default c = uncounted c.args.text.now c.args.names.now c.args.self.now c.args.kept
    c.args.name.now (λ state. ended_output) c.in_default.ensures

pub returns-in_default-collected : goal.returns-in_default-collected
returns-in_default-collected c = closes_nothing c.args.text.now c.args.names.now c.args.self.now
    c.args.kept c.args.name.now c.in-Some.place c.in-Some.ensures c.in_ok-known.known
    (c.in_ok-known.ensures c.args.text.now c.args.names.now) c.in_default-collected.is

pub returns : goal.returns
returns c = IfOk-weaker c.know.result _ _ (λ next knows.
    closes c.args.text.now c.args.names.now c.args.self.now c.know.new.self c.args.kept next
    c.args.name.now c.in-Some.place c.in-Some.ensures c.in_ok-known.known
    (c.in_ok-known.ensures c.args.text.now c.args.names.now) c.in-Some-collected.collected c.in-Some-collected.is
    knows) c.know.ensures
