use Rattle.std.proofs.Common.{List, ℕ, subst}
use Rattle.std.proofs.lemmas.Result.{IfOk-weaker}
use Rattle.ux_outputs.specs.Rendering.{after_put}
use Rattle.ux_folds.specs.Tables.{Turns}
use Rattle.ux_folds.proofs.tables.Tables.put_text.Goals as goal

pub returns : goal.returns
returns c = IfOk-weaker c.put.result _ _ (λ next turns tokens names.
    subst (λ (b : List ℕ). Turns tokens names c.args.self.now c.put.new.self c.args.kept
    (λ state. after_put state b) next) c.as_bytes.ensures.value
    (turns tokens names c.as_bytes.ensures.utf8)) c.put.ensures
