use Rattle.std.proofs.Common.{refl, subst, sym}
use Rattle.std.specs.Prelude.{Some}
use Rattle.std.proofs.lemmas.Result.{IfOk-weaker}
use Rattle.ux_base.specs.declared.settings.Mode.{Mode}
use Rattle.ux_outputs.specs.declared.event.Event.TheVariants.{Value}
use Rattle.ux_base.specs.declared.settings.Mode.TheVariants.{Ignore}
use Rattle.ux_folds.specs.Following.{IsFollowed}
use Rattle.ux_folds.proofs.FollowingLemmas.{answers, followed, stays}
use Rattle.ux_folds.proofs.tables.Tables.answer_if.Goals as goal

pub returns-in-Ignore : goal.returns-in-Ignore
returns-in-Ignore c = λ tokens. subst (λ (mode : Mode). IsFollowed tokens mode c.args.novar c.args.names.now
    c.args.self.now c.args.self.now c.args.kept (Value c.args.asked.now) (Some c.args.kept))
    (sym c.in-Ignore.is)
    (followed tokens Ignore c.args.novar c.args.names.now c.args.self.now c.args.self.now c.args.kept c.args.kept
    (Value c.args.asked.now) (λ state. state) (λ state. refl) (λ state same. tt)
    (stays tokens Ignore c.args.novar c.args.names.now c.args.self.now c.args.kept))

pub returns-in-Merge : goal.returns-in-Merge
returns-in-Merge c = IfOk-weaker c.answer.result _ _ (λ next answered tokens.
    answers tokens c.args.novar c.args.names.now c.args.self.now c.answer.new.self c.args.kept
    c.args.mode next c.args.asked.now c.in-Merge.is (answered tokens)) c.answer.ensures
