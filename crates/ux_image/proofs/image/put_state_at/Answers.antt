use Rattle.std.proofs.lemmas.Result.{on_ok_weaker}
use Rattle.ux_image.specs.Images.{renumbered}
use Rattle.ux_image.specs.Layout.{state_bytes, StateFits}
use Rattle.ux_image.proofs.NumberLemmas.{all_at, bytes_at}
use Rattle.ux_image.proofs.image.put_state_at.Goals as goal

pub returns-clause-bytes : goal.returns-clause-bytes
returns-clause-bytes c =
    on_ok_weaker c.put_state.result
    (bytes_at c.args.automaton.now c.args.number c.requires c.code.result c.code.ensures
    c.edges.result.now c.edges.ensures (renumbered c.args.order.now.keys) state_bytes
    c.args.bytes.now.items c.put_state.new.bytes.items)
    c.put_state.ensures.bytes

pub returns-clause-fits : goal.returns-clause-fits
returns-clause-fits c =
    on_ok_weaker c.put_state.result
    (all_at c.args.automaton.now c.args.number c.requires c.code.result c.code.ensures
    c.edges.result.now c.edges.ensures StateFits (renumbered c.args.order.now.keys))
    c.put_state.ensures.fits
