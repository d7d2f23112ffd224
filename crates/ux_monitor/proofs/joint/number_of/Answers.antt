use lib.Pointwise.{bytes_decides}
use Rattle.std.proofs.Common.{sym}
use Rattle.ux_monitor.proofs.NumberingLemmas.{both_true, still_numbered, one_numbered}
use Rattle.ux_monitor.proofs.joint.number_of.Goals as goal

pub returns-clause-same : goal.returns-clause-same
returns-clause-same c =
    let s = c.in_ok-number.ensures.stored in
    let a = c.args.joint in
    let b = s.0 in
    let parts = both_true _ _ s.2 in
    (s.0, s.1, sym ((bytes_decides a.seen.items b.seen.items).0 parts.1))

pub returns-clause-kept : goal.returns-clause-kept
returns-clause-kept c = still_numbered _ c.args.states.now.keys c.insert_full.new.self.keys
    c.args.joint c.in_ok-number.ensures.keys

pub returns-clause-only : goal.returns-clause-only
returns-clause-only c = one_numbered _ c.args.states.now.keys c.insert_full.new.self.keys
    c.args.joint c.in_ok-number.ensures.keys
