use Rattle.std.proofs.Common.{arith}
use Rattle.ux_image.proofs.NumberLemmas.{firsts_more, firsts_all}
use Rattle.ux_image.proofs.numbering.order_of.Goals as goal

pub loop-number-preserved : goal.loop-number-preserved
loop-number-preserved c =
    firsts_more c.args.automaton.now c.loop-number.number c.loop-number.order.keys
    c.note_state.new.order.keys c.loop-number.invariant c.in_ok-note_state.ensures

pub returns : goal.returns
returns c =
    firsts_all c.args.automaton.now c.loop-number.number c.root-root.result
    c.loop-number.order.keys c.note_state-2.new.order.keys (omega arith) (omega arith)
    c.root-root.ensures c.loop-number.invariant c.in_ok-note_state-2.ensures
