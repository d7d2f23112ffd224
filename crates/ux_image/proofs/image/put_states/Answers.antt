use Rattle.std.proofs.Common.{arith}
use Rattle.std.proofs.lemmas.Result.{on_ok_weaker}
use Rattle.ux_image.specs.Images.{renumbered}
use Rattle.ux_image.specs.Layout.{state_bytes, StateFits}
use Rattle.ux_image.proofs.NumberLemmas.{bytes_more, bytes_all, all_more, all_all}
use Rattle.ux_image.proofs.image.put_states.Goals as goal

pub loop-number-preserved : goal.loop-number-preserved
loop-number-preserved c =
    let states = c.args.automaton.now in
    let put = c.in_ok-put_state_at.ensures in
    record {
      bytes = bytes_more state_bytes (renumbered c.args.order.now.keys) states c.loop-number.number
          c.args.bytes.now.items c.loop-number.bytes.items c.put_state_at.new.bytes.items
          c.loop-number.invariant.bytes put.bytes;
      fits = all_more StateFits (renumbered c.args.order.now.keys) states c.loop-number.number
          c.loop-number.invariant.fits put.fits;
    }

pub returns-clause-bytes : goal.returns-clause-bytes
returns-clause-bytes c =
    on_ok_weaker c.put_state_at-2.result
    (bytes_all state_bytes (renumbered c.args.order.now.keys) c.args.automaton.now
    c.loop-number.number c.root-root.result c.args.bytes.now.items c.loop-number.bytes.items
    c.put_state_at-2.new.bytes.items (omega arith) (omega arith) c.root-root.ensures
    c.loop-number.invariant.bytes) c.put_state_at-2.ensures.bytes

pub returns-clause-fits : goal.returns-clause-fits
returns-clause-fits c =
    on_ok_weaker c.put_state_at-2.result
    (all_all StateFits (renumbered c.args.order.now.keys) c.args.automaton.now
    c.loop-number.number c.root-root.result (omega arith) (omega arith) c.root-root.ensures
    c.loop-number.invariant.fits) c.put_state_at-2.ensures.fits
