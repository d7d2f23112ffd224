use Rattle.std.proofs.Common.{◌≡◌, get_or, subst, sym, refl}
use Rattle.std.specs.Prelude.{Contains}
use Rattle.ux_closure.specs.declared.stand.Stand.{Stand}
use Rattle.ux_automaton.proofs.AddingLemmas.{adds_all, adds_next, item_at}
use Rattle.ux_automaton.proofs.CacheLemmas.{either, through}
use Rattle.ux_automaton.proofs.fronts.put_all.Goals as goal

pub loop-stand-preserved : goal.loop-stand-preserved
loop-stand-preserved c =
    let none : Stand = record {
      here = record { graph = 0; state = 0 };
      back = 0;
    } in
    let i = c.loop-stand.stand-index in
    let inside = c.loop-stand-test.true in
    adds_next (λ (one : Stand) (stand : Stand). stand ≡ one) (Contains c.args.set.now.keys)
    (Contains c.loop-stand.set.keys) (Contains c.put.new.set.keys) c.args.stands.now i
    (get_or c.args.stands.now i none) inside (item_at c.args.stands.now i none inside)
    c.loop-stand.invariant c.in_ok-put.ensures

pub returns : goal.returns
returns c = λ stand. through (adds_all (λ (one : Stand) (other : Stand). other ≡ one)
    (Contains c.args.set.now.keys) (Contains c.loop-stand.set.keys) c.args.stands.now
    c.loop-stand.stand-index c.loop-stand-test.false c.loop-stand.invariant stand) (either (
      λ h. subst (Contains c.args.stands.now) (sym h.2) h.1,
      λ h. (stand, h, refl),
    ))
