use Rattle.std.proofs.Common.{◌∙◌}
use Rattle.ux_folds.proofs.PuttingLemmas.{answered_value, answered_without}
use Rattle.ux_folds.proofs.tables.Tables.put_value.Goals as goal

pub returns-in_ok-put-in-Some : goal.returns-in_ok-put-in-Some
returns-in_ok-put-in-Some c = λ name. answered_value c.args.novar c.args.self.now c.put.new.self c.args.kept
    c.in_ok-put-in-Some.field-0 name c.in-Some.number c.as_slice.result.now c.args.value c.in-Some.is
    (λ text names sound named. c.as_slice.ensures.value
    ∙ c.in_ok-bytes-in-Some.ensures text sound.texts named) c.in_ok-put-in-Some.ensures

pub returns-in-None : goal.returns-in-None
returns-in-None c = λ name. answered_without c.args.novar c.args.self.now c.args.kept name
    c.goes_on_without.result c.args.value c.if_holds.result c.in-None.is c.goes_on_without.ensures
    c.if_holds.ensures
