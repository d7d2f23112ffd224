use Rattle.std.proofs.Common.{sym}
use Rattle.ux_text_chart.proofs.state_indexes.meet_state.Goals as goal

pub returns : goal.returns
returns c = c.meet.ensures c.args.net.now c.in-Some.state.now (sym c.in-Some.ensures)
    (sym c.as_slice-edges.ensures) c.requires.sound
