use lib.Pointwise.{bytes_decides}
use Rattle.ux_monitor.proofs.NumberingLemmas.{still_numbered}
use Rattle.ux_monitor.proofs.ProductLemmas.{kind-here, kinds-kept}
use Rattle.ux_monitor.proofs.product.number_of.Goals as goal

pub returns-clause-kept : goal.returns-clause-kept
returns-clause-kept c = kinds-kept c.args.kinds.now.keys c.insert_full.new.self.keys
    (still_numbered _ c.args.kinds.now.keys c.insert_full.new.self.keys c.args.kind
    c.in_ok-number.ensures.keys)

pub returns-clause-number : goal.returns-clause-number
returns-clause-number c =
    let s = c.in_ok-number.ensures.stored in
    kind-here c.insert_full.new.self.keys c.in_ok-number.number s.0 c.args.kind.items s.1
    ((bytes_decides c.args.kind.items s.0.items).0 s.2)
