use Rattle.std.proofs.Common.{◌∙◌, ap, sym, subst, not, Bool}
use Rattle.std.specs.Prelude.{None, Some, if◌then◌else◌}
use Rattle.std.proofs.lemmas.Result.{IfOk-weaker}
use Rattle.ux_folds.specs.declared.names.Question.{Question}
use Rattle.ux_folds.specs.Following.{IsAnsweredBy}
use Rattle.ux_folds.specs.Names.{asked_as}
use Rattle.ux_folds.proofs.PuttingLemmas.{answered_set, answered_unset, not_not}
use Rattle.ux_folds.proofs.tables.Tables.answer_by.Goals as goal

pub returns-in-IsSet : goal.returns-in-IsSet
returns-in-IsSet c = subst (λ (q : Question). IsAnsweredBy c.args.novar c.args.self.now
    c.args.self.now c.args.kept (asked_as q) c.args.value c.if_holds.result) (sym c.in-IsSet.is)
    (answered_set c.args.novar c.args.self.now c.args.kept _ c.args.value c.if_holds.result
    (c.if_holds.ensures ∙ ap (λ (b : Bool). if b then Some c.args.kept else None) c.is_some.ensures))

pub returns-in-IsUnset : goal.returns-in-IsUnset
returns-in-IsUnset c = subst (λ (q : Question). IsAnsweredBy c.args.novar c.args.self.now
    c.args.self.now c.args.kept (asked_as q) c.args.value c.if_holds-in-IsUnset.result)
    (sym c.in-IsUnset.is)
    (answered_unset c.args.novar c.args.self.now c.args.kept _ c.args.value
    c.if_holds-in-IsUnset.result
    (c.if_holds-in-IsUnset.ensures ∙ ap (λ (b : Bool). if b then Some c.args.kept else None)
    (sym (ap not c.is_none.ensures ∙ not_not c.is_none.result))))

pub returns-in-Value : goal.returns-in-Value
returns-in-Value c = IfOk-weaker c.put_value.result _ _ (λ next by.
    subst (λ (q : Question). IsAnsweredBy c.args.novar c.args.self.now c.put_value.new.self
    c.args.kept (asked_as q) c.args.value next) (sym c.in-Value.is) (by c.in-Value.field-0.now))
    c.put_value.ensures
