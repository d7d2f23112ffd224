use lib.Pointwise.{bytes_decides}
use Rattle.std.proofs.Common.{refl}
use Rattle.std.specs.contracts.prelude.BoolPartialEq.TheImpl.{ghosts}
use Rattle.ux_monitor.proofs.NumberingLemmas.{both_true, same_bool}
use Rattle.ux_monitor.proofs.OwingLemmas.{kept_idle, kept_put}
use Rattle.ux_monitor.proofs.owing.keep.Goals as goal

pub returns-then-is_idle : goal.returns-then-is_idle
returns-then-is_idle c = kept_idle c.args.owed.now.keys c.args.one (c.if-is_idle.ensures refl)

pub returns : goal.returns
returns c =
    let s = c.in_ok-_number.ensures.stored in
    kept_put _ c.args.owed.now.keys c.insert_full.new.self.keys c.args.one c.in_ok-_number.ensures.keys c.in_ok-_number._number s.0 s.1 s.2
    (λ a b h.
    let f = both_true _ _ h in
    let g = both_true _ _ f.1 in
    record {
      found = same_bool (λ x y. ghosts.eq x y) refl refl a.found b.found f.0;
      ifs = (bytes_decides a.ifs.items b.ifs.items).0 g.0;
      thens = (bytes_decides a.thens.items b.thens.items).0 g.1;
    })
