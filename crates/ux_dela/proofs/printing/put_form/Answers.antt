use Rattle.std.proofs.Common.{arith}
use Rattle.ux_dela.specs.Signs.{SLASH}
use Rattle.ux_dela.proofs.StopLemmas.{behind_first}
use Rattle.ux_dela.proofs.printing.put_form.Goals as goal

pub range_from-requires : goal.range_from-requires
range_from-requires c =
    let begins = c.begins_with.ensures.0 c.if-not-begins_with.false in
    λ _. behind_first c.args.form.now SLASH c.utf8.form begins (omega arith)
