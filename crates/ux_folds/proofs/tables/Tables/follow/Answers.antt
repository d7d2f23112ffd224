use Rattle.std.proofs.Common.{refl, subst, sym}
use Rattle.std.specs.Prelude.{Some}
use Rattle.std.proofs.lemmas.Result.{IfOk-weaker}
use Rattle.ux_outputs.specs.declared.event.Event.TheVariants.{Begin, End, Cut}
use Rattle.ux_outputs.specs.Variables.{named_by}
use Rattle.ux_outputs.specs.Rendering.{after_begin, after_cut, after_end}
use Rattle.ux_folds.specs.declared.fold.LentEvent.{LentEvent}
use Rattle.ux_folds.specs.Folding.{event_of}
use Rattle.ux_folds.specs.Following.{IsFollowed}
use Rattle.ux_folds.proofs.FollowingLemmas.{followed}
use Rattle.ux_folds.proofs.tables.Tables.follow.Goals as goal

pub returns-in-Take : goal.returns-in-Take
returns-in-Take c = IfOk-weaker c.take_if.result _ _ (λ next is.
    subst (λ (e : LentEvent). IsFollowed c.args.text.now c.args.mode c.args.novar c.args.names.now
    c.args.self.now c.take_if.new.self c.args.kept (event_of e) next) (sym c.in-Take.is)
    (is c.args.novar c.args.names.now)) c.take_if.ensures

pub returns-in-Put : goal.returns-in-Put
returns-in-Put c = IfOk-weaker c.put_if.result _ _ (λ next is.
    subst (λ (e : LentEvent). IsFollowed c.args.text.now c.args.mode c.args.novar c.args.names.now
    c.args.self.now c.put_if.new.self c.args.kept (event_of e) next) (sym c.in-Put.is)
    (is c.args.text.now c.args.novar c.args.names.now)) c.put_if.ensures

pub returns-in-Value : goal.returns-in-Value
returns-in-Value c = IfOk-weaker c.answer_if.result _ _ (λ next is.
    subst (λ (e : LentEvent). IsFollowed c.args.text.now c.args.mode c.args.novar c.args.names.now
    c.args.self.now c.answer_if.new.self c.args.kept (event_of e) next) (sym c.in-Value.is)
    (is c.args.text.now)) c.answer_if.ensures

pub returns-in_ok-begin-in-Begin : goal.returns-in_ok-begin-in-Begin
returns-in_ok-begin-in-Begin c =
    subst (λ (e : LentEvent). IsFollowed c.args.text.now c.args.mode c.args.novar c.args.names.now
    c.args.self.now c.begin.new.self c.args.kept (event_of e) (Some c.in_ok-begin-in-Begin.field-0))
    (sym c.in-Begin.is)
    (followed c.args.text.now c.args.mode c.args.novar c.args.names.now c.args.self.now
    c.begin.new.self c.args.kept c.in_ok-begin-in-Begin.field-0 (Begin c.in-Begin.name.now)
    (λ state. after_begin state (named_by c.in-Begin.name.now)) (λ state. refl) (λ state same. tt) (c.in_ok-begin-in-Begin.ensures c.args.text.now))

pub returns-in_ok-end-in-End : goal.returns-in_ok-end-in-End
returns-in_ok-end-in-End c =
    subst (λ (e : LentEvent). IsFollowed c.args.text.now c.args.mode c.args.novar c.args.names.now
    c.args.self.now c.end.new.self c.args.kept (event_of e) (Some c.in_ok-end-in-End.field-0))
    (sym c.in-End.is)
    (followed c.args.text.now c.args.mode c.args.novar c.args.names.now c.args.self.now
    c.end.new.self c.args.kept c.in_ok-end-in-End.field-0 (End c.in-End.name.now)
    (λ state. after_end c.args.text.now state (named_by c.in-End.name.now)) (λ state. refl) (λ state same. tt) (c.in_ok-end-in-End.ensures))

pub returns-in-Cut : goal.returns-in-Cut
returns-in-Cut c =
    subst (λ (e : LentEvent). IsFollowed c.args.text.now c.args.mode c.args.novar c.args.names.now
    c.args.self.now c.args.self.now c.args.kept (event_of e) (Some c.cut.result))
    (sym c.in-Cut.is)
    (followed c.args.text.now c.args.mode c.args.novar c.args.names.now c.args.self.now
    c.args.self.now c.args.kept c.cut.result Cut after_cut (λ state. refl) (λ state same. tt)
    (c.cut.ensures c.args.text.now c.args.names.now c.args.self.now))
