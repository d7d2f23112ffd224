use Rattle.std.proofs.Common.{arith, ◌≡◌, ◌-◌, ◌<◌, Some, sym, ap, subst, ◌∙◌, length}
use Rattle.std.proofs.lemmas.Option.{slice_get-get_or}
use Rattle.ux_chart.specs.Alike.{IsSharing}
use Rattle.ux_chart.specs.Rows.{IsWholeRow}
use Rattle.ux_chart.proofs.AlikeLemmas.{shared}
use Rattle.ux_chart.proofs.filling.shared_row.Goals as goal

pub returns-else-some_ends_from : goal.returns-else-some_ends_from
returns-else-some_ends_from g c =
    let input = g.B.Basis.input c.args.basis.now in
    let chart = c.args.chart.now in
    let later = c.in_ok-later-in-Alike.later in
    let row = c.index-row.result.now in
    let inside = c.in_ok-later-in-Alike.ensures.inside in
    let last = c.requires.last in
    let after = c.in_ok-later-in-Alike.ensures.later in
    let count = c.requires.count in
    let within : chart.last - later < length chart.rows.items =
    omega (arith, after, inside, last, count) in
    let place : chart.last - (chart.last - later) ≡ later = omega (arith, inside, last) in
    shared input (g.B.Basis.last c.args.basis.now) c.requires.ahead c.args.net.now
    (subst (IsSharing c.args.net.now) c.in-Alike.is c.requires.sharing) c.args.parts.now
    chart.table row c.args.at later c.in_ok-later-in-Alike.ensures.alike
    (c.some_ends_from.ensures c.if-some_ends_from.false)
    (subst (IsWholeRow input c.args.net.now c.args.parts.now chart.table row) place
    (c.requires.begun.done (chart.last - later) row
    (slice_get-get_or chart.rows.items (chart.last - later) row within
    ∙ ap Some (sym c.index-row.ensures))))
