use Rattle.std.proofs.Common.{subst, sym}
use Rattle.std.proofs.lemmas.Result.{IfOk-weaker}
use Rattle.ux_outputs.specs.Variables.{Named}
use Rattle.ux_outputs.specs.Rendering.{after_end}
use Rattle.ux_folds.specs.Tables.{Turns}
use Rattle.ux_folds.proofs.tables.Tables.end.Goals as goal

pub returns-in-Some : goal.returns-in-Some
returns-in-Some c = IfOk-weaker c.close.result _ _ (λ next turns.
    subst (λ (n : Named). Turns c.args.text.now c.args.names.now c.args.self.now c.close.new.self
    c.args.kept (λ state. after_end c.args.text.now state n) next) (sym c.in-Some.ensures) turns)
    c.close.ensures

pub returns-in-None : goal.returns-in-None
returns-in-None c = IfOk-weaker c.end_input.result _ _ (λ next turns.
    subst (λ (n : Named). Turns c.args.text.now c.args.names.now c.args.self.now c.end_input.new.self
    c.args.kept (λ state. after_end c.args.text.now state n) next) (sym c.in-None.ensures) turns)
    c.end_input.ensures
