use Rattle.std.proofs.Common.{get_or, inl, inr}
use Rattle.std.specs.Prelude.{Contains}
use Rattle.ux_closure.specs.declared.stand.Stand.{Stand}
use Rattle.ux_automaton.specs.FrontIndexes.{FitsOver}
use Rattle.ux_automaton.proofs.AddingLemmas.{adds_all, adds_next, item_at}
use Rattle.ux_automaton.proofs.front_index.fittings_of.Goals as goal

pub loop-stand-preserved : goal.loop-stand-preserved
loop-stand-preserved c =
    let none : Stand = record {
      here = record { graph = 0; state = 0 };
      back = 0;
    } in
    let i = c.loop-stand.stand-index in
    let inside = c.loop-stand-test.true in
    adds_next (FitsOver c.args.masked.now) (λ fitting. ⊥) (Contains c.loop-stand.fittings.items)
    (Contains c.add_stand.new.fittings.items) c.args.stands.now i (get_or c.args.stands.now i none)
    inside (item_at c.args.stands.now i none inside) c.loop-stand.invariant c.in_ok-add_stand.ensures

pub returns : goal.returns
returns c = λ fitting.
    let all = adds_all (FitsOver c.args.masked.now) (λ f. ⊥) (Contains c.loop-stand.fittings.items)
    c.args.stands.now c.loop-stand.stand-index c.loop-stand-test.false c.loop-stand.invariant
    fitting in (
      λ h. elim (all.0 h) [ inl nowhere ↦ absurd nowhere | inr n ↦ n ],
      λ h. all.1 (inr h),
    )
