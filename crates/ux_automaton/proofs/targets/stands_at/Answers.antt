use Rattle.std.proofs.Common.{◌≡◌, get_or, inl, inr, subst, refl}
use Rattle.std.specs.Prelude.{Contains}
use Rattle.ux_closure.specs.declared.stand.Stand.{Stand}
use Rattle.ux_automaton.specs.declared.target.Target.{Target}
use Rattle.ux_automaton.proofs.AddingLemmas.{adds_all, adds_next, item_at}
use Rattle.ux_automaton.proofs.OverLemmas.{target_is}
use Rattle.ux_automaton.proofs.targets.stands_at.Goals as goal

pub loop-target-preserved : goal.loop-target-preserved
loop-target-preserved c =
    let none : Target = record {
      at = 0;
      stand = record { here = record { graph = 0; state = 0 }; back = 0 };
    } in
    let i = c.loop-target.target-index in
    let inside = c.loop-target-test.true in
    adds_next (λ (target : Target) (stand : Stand).
    (target.at ≡ c.args.at) × (stand ≡ target.stand)) (λ stand. ⊥)
    (Contains c.loop-target.stands.keys) (Contains c.put_at.new.stands.keys) c.args.targets.now i
    (get_or c.args.targets.now i none) inside (item_at c.args.targets.now i none inside)
    c.loop-target.invariant c.in_ok-put_at.ensures

pub returns : goal.returns
returns c = λ stand.
    let all = adds_all (λ (target : Target) (s : Stand).
    (target.at ≡ c.args.at) × (s ≡ target.stand)) (λ s. ⊥) (Contains c.loop-target.stands.keys)
    c.args.targets.now c.loop-target.target-index c.loop-target-test.false c.loop-target.invariant
    stand in (
      λ h. elim (all.0 h) [
        | inl nowhere ↦ absurd nowhere
        | inr n ↦ subst (Contains c.args.targets.now)
            (target_is n.0 c.args.at stand n.2.0 n.2.1) n.1
      ],
      λ h. all.1 (inr (record { at = c.args.at; stand = stand }, h, (refl, refl))),
    )
