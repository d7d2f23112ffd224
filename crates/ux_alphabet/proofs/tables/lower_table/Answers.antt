use Rattle.std.proofs.Common.{◌∙◌}
use Rattle.std.proofs.lemmas.Result.{IfOk-weaker}
use Rattle.ux_alphabet.proofs.TableLemmas.{IsLower-table}
use Rattle.ux_alphabet.proofs.tables.lower_table.Goals as goal

pub returns : goal.returns
returns c =
    let spans = c.deref.ensures.value ∙ c.in_ok-spans.ensures in
    let lines = c.args.lines.now in
    IfOk-weaker c.table_of.result _ _
    (λ table is. IsLower-table lines c.deref.result.now table.items spans is) c.table_of.ensures
