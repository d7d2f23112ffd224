use lib.Pointwise.{bytes_decides}
use Rattle.std.proofs.Common.{◌∙◌, sym, ap}
use Rattle.std.specs.Prelude.{Some}
use Rattle.ux_reading_table.proofs.NotingLemmas.{slice_at}
use Rattle.ux_reading_table.proofs.table.index_at.Goals as goal

pub returns-then-eq : goal.returns-then-eq
returns-then-eq c =
    let spelled = c.in_ok-spelled.field-0.now in
    slice_at c.args.set.now.keys c.in_ok-index.field-0.now spelled (sym c.in_ok-spelled.ensures.key)
    ∙ ap Some ((bytes_decides spelled.now c.args.text.now).0 (sym c.if-eq.ensures))
