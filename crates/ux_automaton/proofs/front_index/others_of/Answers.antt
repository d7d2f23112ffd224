use Rattle.std.proofs.Common.{◌≡◌, get_or, inl, inr}
use Rattle.std.specs.Prelude.{Contains}
use Rattle.ux_closure.specs.declared.stand.Stand.{Stand}
use Rattle.ux_automaton.specs.FrontIndexes.{HasOther}
use Rattle.ux_automaton.proofs.AddingLemmas.{adds_all, adds_next, item_at}
use Rattle.ux_automaton.proofs.front_index.others_of.Goals as goal

pub loop-stand-preserved : goal.loop-stand-preserved
loop-stand-preserved c =
    let none : Stand = record {
      here = record { graph = 0; state = 0 };
      back = 0;
    } in
    let i = c.loop-stand.stand-index in
    let inside = c.loop-stand-test.true in
    adds_next (λ (stand : Stand) (other : Stand).
    (other ≡ stand) × HasOther c.args.net.now stand) (λ other. ⊥)
    (Contains c.loop-stand.others.items) (Contains c.put_other.new.others.items) c.args.stands.now i
    (get_or c.args.stands.now i none) inside (item_at c.args.stands.now i none inside)
    c.loop-stand.invariant c.in_ok-put_other.ensures

pub returns : goal.returns
returns c = λ other.
    let all = adds_all (λ (stand : Stand) (o : Stand).
    (o ≡ stand) × HasOther c.args.net.now stand) (λ o. ⊥) (Contains c.loop-stand.others.items)
    c.args.stands.now c.loop-stand.stand-index c.loop-stand-test.false c.loop-stand.invariant
    other in (
      λ h. elim (all.0 h) [ inl nowhere ↦ absurd nowhere | inr n ↦ n ],
      λ h. all.1 (inr h),
    )
