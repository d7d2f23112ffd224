use lib.Pointwise.{bytes_decides}
use Rattle.std.proofs.Common.{◌∙◌, sym}
use Rattle.ux_monitor.proofs.NumberingLemmas.{more_kinds, tests_at}
use Rattle.ux_monitor.proofs.monitor.number_of.Goals as goal

pub returns-clause-more : goal.returns-clause-more
returns-clause-more c = more_kinds _ c.args.kinds.now.keys c.insert_full.new.self.keys c.args.kind
    c.in_ok-number.ensures.keys

pub returns-clause-tests : goal.returns-clause-tests
returns-clause-tests c =
    let s = c.in_ok-number.ensures.stored in
    tests_at c.insert_full.new.self.keys c.in_ok-number.number s.0 s.1
    ∙ sym ((bytes_decides c.args.kind.items s.0.items).0 s.2)
