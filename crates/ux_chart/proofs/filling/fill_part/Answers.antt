use Rattle.std.proofs.Common.{sym}
use Rattle.ux_chart.proofs.FillingLemmas.{past_end, filled_past, filled_more}
use Rattle.ux_chart.proofs.filling.fill_part.Goals as goal

pub returns-in_default-clause-filled : goal.returns-in_default-clause-filled
returns-in_default-clause-filled g c =
    filled_past (g.B.Basis.input c.args.basis.now) c.args.net.now c.args.parts.now
    c.args.chart.now c.args.begun
    (past_end c.args.parts.now.list c.args.begun.number c.in_default.ensures) c.requires.end
    c.requires.filled

pub returns-clause-filled : goal.returns-clause-filled
returns-clause-filled g c =
    filled_more (g.B.Basis.input c.args.basis.now) c.args.net.now c.args.parts.now
    c.args.chart.now c.put.new.chart c.args.begun c.in-Some.part.now
    c.search.new.lists.ends.items c.search.new.lists.closers.items (sym c.in-Some.ensures)
    c.in_ok-search.ensures c.requires.end c.put.ensures.same c.put.ensures.rows
    c.in_ok-put.ensures.table c.requires.filled
