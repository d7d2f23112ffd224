use Rattle.std.proofs.Common.{◌≡◌, subst}
use Rattle.std.specs.Prelude.{Some, slice_get}
use Rattle.ux_text_chart.proofs.net_tables.number_among.Goals as goal

pub returns-in-Some-clause-number : goal.returns-in-Some-clause-number
returns-in-Some-clause-number c = λ number same alphabet texts ready.
    let is : c.in-Some.number ≡ number = cc in
    subst (λ n. slice_get texts n ≡ Some c.args.text.now) is (c.in-Some.ensures alphabet texts ready)
