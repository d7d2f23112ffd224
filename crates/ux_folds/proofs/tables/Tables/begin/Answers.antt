use Rattle.std.proofs.Common.{subst, sym}
use Rattle.std.proofs.lemmas.Result.{IfOk-weaker}
use Rattle.ux_outputs.specs.Variables.{Named}
use Rattle.ux_outputs.specs.Rendering.{after_begin}
use Rattle.ux_folds.specs.Tables.{Turns}
use Rattle.ux_folds.proofs.tables.Tables.begin.Goals as goal

pub returns-in-Some : goal.returns-in-Some
returns-in-Some c = IfOk-weaker c.open.result _ _ (λ next turns tokens.
    subst (λ (n : Named). Turns tokens c.args.names.now c.args.self.now c.open.new.self
    c.args.kept (λ state. after_begin state n) next) (sym c.in-Some.ensures) (turns tokens))
    c.open.ensures

pub returns-in-None : goal.returns-in-None
returns-in-None c = IfOk-weaker c.note.result _ _ (λ next turns tokens.
    subst (λ (n : Named). Turns tokens c.args.names.now c.args.self.now c.note.new.self
    c.args.kept (λ state. after_begin state n) next) (sym c.in-None.ensures) (turns tokens))
    c.note.ensures
