use Rattle.ux_outputs.proofs.TableLemmas.{known_in-set}
use Rattle.ux_outputs.proofs.table.set_known.Goals as goal

pub returns : goal.returns
returns c = known_in-set c.args.name.now c.args.table.now c.insert.new.self c.args.known
    c.in_ok-insert.ensures.updates
