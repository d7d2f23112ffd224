use lib.Pointwise.{bytes_decides}
use Rattle.std.proofs.Common.{refl}
use Rattle.std.specs.contracts.prelude.BoolPartialEq.TheImpl.{ghosts}
use Rattle.ux_monitor.proofs.NumberingLemmas.{both_true, owed_alike, same_bool, still_numbered, one_numbered}
use Rattle.ux_monitor.proofs.memory.number_of.Goals as goal

pub returns-clause-same : goal.returns-clause-same
returns-clause-same c =
    let s = c.in_ok-number.ensures.stored in
    let a = c.args.seen in
    let b = s.0 in
    let accepted = both_true _ _ s.2 in
    let first = both_true _ _ accepted.1 in
    let second = both_true _ _ first.1 in (
      s.0,
      s.1,
      record {
        ifs = (bytes_decides a.ifs.items b.ifs.items).0 first.0;
        thens = (bytes_decides a.thens.items b.thens.items).0 second.0;
        owed = owed_alike _ (λ x y h.
            let f = both_true _ _ h in
            let g = both_true _ _ f.1 in
            record {
              found = same_bool (λ a b. ghosts.eq a b) refl refl x.found y.found f.0;
              ifs = (bytes_decides x.ifs.items y.ifs.items).0 g.0;
              thens = (bytes_decides x.thens.items y.thens.items).0 g.1;
            }) a.owed.items b.owed.items second.1;
      },
    )

pub returns-clause-kept : goal.returns-clause-kept
returns-clause-kept c = still_numbered _ c.args.states.now.keys c.insert_full.new.self.keys
    c.args.seen c.in_ok-number.ensures.keys

pub returns-clause-only : goal.returns-clause-only
returns-clause-only c = one_numbered _ c.args.states.now.keys c.insert_full.new.self.keys
    c.args.seen c.in_ok-number.ensures.keys
