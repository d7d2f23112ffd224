use Rattle.std.proofs.lemmas.Result.{IfOk-weaker}
use Rattle.ux_monitor.proofs.product.kept_or_new.Goals as goal

pub returns-then-is_full : goal.returns-then-is_full
returns-then-is_full c =
    IfOk-weaker c.new.result _ _ (λ fresh right parts of counted was. right parts of counted)
    c.new.ensures
